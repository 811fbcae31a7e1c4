-- What the functions of find promise one another.
use Rattle.std.specs.Prelude.{◌≡◌, ℕ, ◌+◌, ◌*◌, ◌≤◌, Bool, List, map, length}
use Rattle.record.specs.declared.index.Entry.{Entry}
use Rattle.table.specs.Limits.{per_place}
use Rattle.table.specs.Table.{Tab, tab}
use Rattle.table.specs.Marks.{picked, noted}
use Rattle.boxes.specs.declared.stage.locate.Located.{Located}
use Rattle.boxes.specs.Check.{Passes}
use Rattle.boxes.specs.Shelf.{World, pattern_entry, record_entry, pattern_at, record_at}
use Rattle.boxes.specs.Record.{Read, spots}
use Rattle.boxes.specs.Listing.{spot_at}
use Rattle.boxes.specs.Calls.{locate_checks, read_checks}

-- pattern p and record r, which the checks let through
pub record LocatedAs {C : Type 0} (w : World C) (p r m : ℕ) (l : Located C) : Type 0 where
  pub passes : Passes (locate_checks w p r m)
  pub pattern_is : tab l.pattern ≡ pattern_at w.shelf (pattern_entry w.shelf p)
  pub bytes_is : l.bytes.now ≡ record_at w.shelf (record_entry w.shelf r)

-- the record is indexed, and for each mark the places at which it is noted are those of the nodes to which the record's reading gives it
pub record ReadOnce {C : Type 0} (kinds : C → ℕ → Bool) (P : Tab C) (bytes : List ℕ) (index scratch : ℕ) (list : List Entry) (sets : List ℕ) (top : ℕ) : Type 0 where
  pub passes : Passes (read_checks kinds P bytes index scratch)
  pub room : per_place * (top + 1) ≤ length sets
  pub places : top ≤ length list
  pub lists : (m : ℕ) (x : Read kinds P bytes) → map (spot_at list) (picked (noted sets m) 0 top) ≡ spots m x
