use Rattle.std.proofs.Common.{w64, sym, ap, ◌∙◌, arith}
use Rattle.std.specs.Int.{trailing_zeros}
use Rattle.table.specs.Sets.{bit}
use Rattle.table.proofs.Masks.{meant_some, least_bit, least_low}
use Rattle.table.proofs.mask.MaskClass.least.Goals as goal

pub returns : goal.returns
returns c =
    let m = c.meant_bits.result in
    let e = c.meant_bits.ensures in
    let there = least_bit 64 m (omega arith) (λ z. meant_some c.args.self.now.bits (sym e ∙ z)) in
    record { member = ap (λ z. bit z (trailing_zeros w64 m)) (sym e) ∙ there; lowest = λ k b. least_low 64 m k (ap (λ z. bit z k) e ∙ b) }
