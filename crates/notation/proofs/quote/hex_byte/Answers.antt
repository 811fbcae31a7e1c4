use Rattle.std.proofs.Common.{ℕ, rules}
use Rattle.notation.specs.Quote.{HexByte}
use Rattle.notation.proofs.quote.hex_byte.Goals as goal

pub returns-in_err-high : goal.returns-in_err-high
returns-in_err-high c =
    let none : (b : ℕ) → HexByte c.args.high c.args.low b → ⊥ = λ b p. (rw c.in_err-high.was at c.hex_value.ensures) _ p.0 in
    search (rules, none)

pub returns-in_err-low : goal.returns-in_err-low
returns-in_err-low c =
    let none : (b : ℕ) → HexByte c.args.high c.args.low b → ⊥ = λ b p. (rw c.in_err-low.was at c.hex_value-2.ensures) _ p.1 in
    search (rules, none)
