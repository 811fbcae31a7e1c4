use Rattle.std.proofs.Common.{rules}
use Rattle.notation.specs.Quote.{Byte, letter, plain}
use Rattle.notation.proofs.Quoted.{spelt_by_hex}
use Rattle.notation.proofs.Written.{adds_made}
use Rattle.notation.proofs.quote.push_byte.Goals as goal

pub returns-in-34 : goal.returns-in-34
returns-in-34 c =
    adds_made _ _ _ _ (λ p. Byte p c.args.byte) (letter (search rules)) c.extend_from_slice.ensures.items

pub returns-in-10 : goal.returns-in-10
returns-in-10 c =
    adds_made _ _ _ _ (λ p. Byte p c.args.byte) (letter (search rules)) c.extend_from_slice-in-10.ensures.items

pub returns-in-9 : goal.returns-in-9
returns-in-9 c =
    adds_made _ _ _ _ (λ p. Byte p c.args.byte) (letter (search rules)) c.extend_from_slice-in-9.ensures.items

pub returns-in-32-to-126 : goal.returns-in-32-to-126
returns-in-32-to-126 c =
    adds_made _ _ _ _ (λ p. Byte p c.args.byte) (plain (search rules) (search rules)) c.extend_from_slice-in-32-to-126.ensures.items

pub returns-in-128-to-255 : goal.returns-in-128-to-255
returns-in-128-to-255 c =
    adds_made _ _ _ _ (λ p. Byte p c.args.byte) (plain (search rules) (search rules)) c.extend_from_slice-in-128-to-255.ensures.items

pub returns-in_default : goal.returns-in_default
returns-in_default c =
    adds_made _ _ _ _ (λ p. Byte p c.args.byte) (spelt_by_hex _ _ c.args.byte (c.hex_digit-high.ensures, c.hex_digit-low.ensures)) c.extend_from_slice-in_default.ensures.items
