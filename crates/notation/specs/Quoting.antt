-- What the functions that read texts in quotes ensure.
use Rattle.std.specs.Prelude.{ℕ, ◌<◌, ◌≤◌, List, length, take, vec_items}
use Rattle.std.specs.List.{between}
use Rattle.notation.specs.declared.quote.Piece.{Piece}
use Rattle.notation.specs.declared.quote.Unquoted.{Unquoted}
use Rattle.notation.specs.Quote.{Byte, Spells}

-- the piece is spelt at the front
pub record FirstOf (rest : List ℕ) (p : Piece) : Type 0 where
  pub some : 0 < p.size
  pub within : p.size ≤ length rest
  pub spelt : Byte (take p.size rest) p.byte

-- what stands from a place on spells the bytes
pub record ReadAs (line : List ℕ) (from : ℕ) (u : Unquoted) : Type 0 where
  pub up : from ≤ u.end
  pub within : u.end ≤ length line
  pub spelt : Spells (between from u.end line) (vec_items u.bytes)
