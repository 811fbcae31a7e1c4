use Rattle.std.proofs.Common.{sym, ap, ◌∙◌, arith}
use Rattle.std.proofs.lemmas.Bool.{le-ltb}
use Rattle.table.specs.Sets.{bit}
use Rattle.table.proofs.Bits.{bit_above}
use Rattle.table.proofs.mask.MaskClass.has.Goals as goal

pub returns-else-kind-lt64 : goal.returns-else-kind-lt64
returns-else-kind-lt64 c =
    let m = c.meant_bits-bits.result in
    le-ltb c.args.kind 64 c.if-kind-lt64.false
    ∙ (sym (bit_above m 64 c.args.kind (omega arith) c.if-kind-lt64.false) ∙ ap (λ z. bit z c.args.kind) c.meant_bits-bits.ensures)
