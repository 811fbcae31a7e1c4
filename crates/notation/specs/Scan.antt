-- Lines, and how far a line has been read.
use Rattle.std.specs.Prelude.{◌≡◌, ℕ, Bool, true, false, ◌-◌, ◌<◌, ◌≤◌, List, length, ◌≢◌, slice_index}
use Rattle.std.specs.List.{between}
use Rattle.notation.specs.Quote.{Quoted}
use Rattle.notation.specs.declared.scan.Cursor.{Cursor}
use Rattle.notation.specs.declared.scan.Source.{Source}

-- what begins at a place goes on to the first byte that stops it, or to the end
pub record EndsBy (stops : ℕ → Bool → Type 0) (bytes : List ℕ) (from to : ℕ) : Type 0 where
  pub up : from ≤ to
  pub within : to ≤ length bytes
  pub inner : (k : ℕ) → from ≤ k → k < to → stops (slice_index bytes k) false
  pub ended : to < length bytes → stops (slice_index bytes to) true

-- the line that begins at a place ends at the first newline there, or where the file ends
pub record LineEnd (text : List ℕ) (from to : ℕ) : Type 0 where
  pub up : from ≤ to
  pub within : to ≤ length text
  pub inner : (k : ℕ) → from ≤ k → k < to → slice_index text k ≢ 10
  pub ended : to < length text → slice_index text to ≡ 10

-- a source gave lines, and more than none
pub record Gave (before after : Source) : Type 0 where
  pub same : after.text.now ≡ before.text.now
  pub more : before.at < length before.text.now
  pub up : before.at < after.at

-- a source gave lines, or none
pub record ReadOn (before after : Source) : Type 0 where
  pub same : after.text.now ≡ before.text.now
  pub up : before.at ≤ after.at

-- how much of a source is left, and of a line
abbrev pub left : Source → ℕ
left s = length s.text.now - s.at

abbrev pub rest : Cursor → ℕ
rest c = length c.bytes.now - c.at

-- a cursor went on in its line, or stayed
pub record Went (before after : Cursor) : Type 0 where
  pub same : after.bytes.now ≡ before.bytes.now
  pub up : before.at ≤ after.at
  pub number : after.line ≡ before.line

-- a cursor went on in its line
pub record Passed (before after : Cursor) : Type 0 where
  pub same : after.bytes.now ≡ before.bytes.now
  pub more : before.at < length before.bytes.now
  pub up : before.at < after.at
  pub within : after.at ≤ length after.bytes.now
  pub number : after.line ≡ before.line

-- the last byte that a cursor passed
abbrev pub last : Cursor → ℕ
last c = slice_index c.bytes.now (c.at - 1)

-- a cursor passed a text in quotes that spells these bytes
pub record TextPassed (before after : Cursor) (text : List ℕ) : Type 0 where
  pub passed : Passed before after
  pub start : ℕ
  pub from : before.at ≤ start
  pub quoted : Quoted (between start after.at after.bytes.now) text
