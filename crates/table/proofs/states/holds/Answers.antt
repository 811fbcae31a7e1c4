use Rattle.std.proofs.Common.{sym, ◌∙◌, inl, inr, arith}
use Rattle.std.proofs.lemmas.Bool.{cases_lt, lt-ltb, le-ltb}
use Rattle.table.proofs.Bits.{bit_modulo, bit_above}
use Rattle.table.proofs.states.holds.Goals as goal

pub returns-then-among : goal.returns-then-among
returns-then-among c =
    let m = c.args.set in
    let q = c.args.state in
    elim (cases_lt q 64) [
      | inl l ↦ lt-ltb q 64 l ∙ sym (sym (bit_modulo m q l) ∙ (sym c.among.ensures ∙ c.if-among.true))
      | inr g ↦ le-ltb q 64 g ∙ sym (bit_above m 64 q (omega arith) g)
    ]

pub returns-else-among : goal.returns-else-among
returns-else-among c =
    let m = c.args.set in
    let q = c.args.state in
    elim (cases_lt q 64) [
      | inl l ↦ c.among.ensures ∙ bit_modulo m q l
      | inr g ↦ c.if-among.false ∙ sym (bit_above m 64 q (omega arith) g)
    ]
