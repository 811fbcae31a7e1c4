-- Numbers in decimal.
use Rattle.std.specs.Prelude.{◌≡◌, ℕ, List, decimal}
use Rattle.std.specs.Str.Parse.{IsNumeral, digits_value}

-- digits, one or more and no other bytes, and the number that they write
pub record Writes (word : List ℕ) (n : ℕ) : Type 0 where
  pub digits : IsNumeral 10 word
  pub is : n ≡ digits_value 10 word

-- a number in decimal
abbrev pub written : ℕ → List ℕ
written n = decimal n
