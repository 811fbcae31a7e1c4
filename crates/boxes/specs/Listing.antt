-- What the functions that list marked nodes promise one another.
use Rattle.std.specs.Prelude.{◌≡◌, ℕ, ◌+◌, ◌-◌, Bool, List, ◌++◌, map, length, take, drop, slice_index_or}
use Rattle.record.specs.declared.index.Entry.{Entry}
use Rattle.table.specs.Marks.{picked}
use Rattle.boxes.specs.declared.shelf.Spot.{Spot}

-- the node at a place of an index, by its offset and whole byte count
abbrev pub spot_of : Entry → Spot
spot_of e = record { offset = e.offset; size = e.size }

abbrev pub blank : Entry
blank = record { node = record { kind = 0; inside = 0; after = 0 }; offset = 0; size = 0 }

abbrev pub spot_at : List Entry → ℕ → Spot
spot_at list p = spot_of (slice_index_or list (p - 1) blank)

-- the nodes of the first places stand at the end of the part of the list that they are to fill
pub record Written (list : List Entry) (test : ℕ → Bool) (places count free : ℕ) (old new : List Spot) : Type 0 where
  pub left : free + length (picked test 0 places) ≡ count
  pub is : new ≡ take free old ++ (map (spot_at list) (picked test 0 places) ++ drop count old)
