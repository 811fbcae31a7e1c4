-- Which bytes are text of the notation.
use Rattle.std.specs.Prelude.{ℕ, ◌<◌, ◌≤◌, ◌≡◌, Bool, false, ◌||◌, ◌&&◌, nat_le, ◌==◌, List, length, slice_index, EachIndex}
use Rattle.std.specs.Str.{IsUtf8}

-- the most bytes of a file
abbrev pub max_file : ℕ
max_file = 268435456

-- below 32 or 127, but for the tab (9), the line end (10) and the carriage return (13)
abbrev pub is_control : ℕ → Bool
is_control b = nat_le b 8 || b == 11 || b == 12 || (nat_le 14 b && nat_le b 31) || b == 127

abbrev pub Plain : List ℕ → Type 0
Plain bytes = EachIndex bytes (λ k. is_control (slice_index bytes k) ≡ false)

-- UTF-8 without control characters, of a size that a file may have
pub record IsText (bytes : List ℕ) : Type 0 where
  pub within : length bytes ≤ max_file
  pub plain : Plain bytes
  pub utf8 : IsUtf8 bytes

-- and something at all
pub record IsFile (bytes : List ℕ) : Type 0 where
  pub some : 0 < length bytes
  pub text : IsText bytes
