-- The box's numbers and the shelf's lists, as values.
use Rattle.std.specs.Prelude.{◌≡◌, ℕ, ◌+◌, ◌≤◌, List, ◌++◌, length, take, drop, slice_index_or}
use Rattle.table.specs.declared.rule.Rule.{Rule}
use Rattle.table.specs.Table.{Tab}
use Rattle.boxes.specs.declared.shelf.PatternEntry.{PatternEntry}
use Rattle.boxes.specs.declared.shelf.RecordEntry.{RecordEntry}
use Rattle.boxes.specs.declared.shelf.Shelf.{Shelf as Lent}
use Rattle.boxes.specs.declared.stage.Held.{Held}

pub record Shelf (C : Type 0) : Type 0 where
  pub rules : List (Rule C)
  pub patterns : List PatternEntry
  pub records : List RecordEntry
  pub bytes : List ℕ

-- the shelf that is lent
abbrev pub shelf_of : {C : Type 0} → Lent C → Shelf C
shelf_of s = record { rules = s.rules.now; patterns = s.patterns.now; records = s.records.now; bytes = s.bytes.now }

-- the lists that are lent are the same before and after
pub record SameLists {C : Type 0} (old new : Lent C) : Type 0 where
  pub rules : new.rules.ghost_name ≡ old.rules.ghost_name
  pub patterns : new.patterns.ghost_name ≡ old.patterns.ghost_name
  pub records : new.records.ghost_name ≡ old.records.ghost_name
  pub bytes : new.bytes.ghost_name ≡ old.bytes.ghost_name

-- used counts, and of the form its rule count, start and final states
pub record Box : Type 0 where
  pub rules : ℕ
  pub patterns : ℕ
  pub records : ℕ
  pub bytes : ℕ
  pub form_rules : ℕ
  pub starts : ℕ
  pub finals : ℕ

-- the numbers that a box holds
abbrev pub box_of : Held → Box
box_of h =
    record { rules = h.rules; patterns = h.patterns; records = h.records; bytes = h.bytes; form_rules = h.form_rules; starts = h.starts; finals = h.finals }

-- no list of the shelf is shorter than its used count
pub record Reaches {C : Type 0} (box : Box) (shelf : Shelf C) : Type 0 where
  pub rules : box.rules ≤ length shelf.rules
  pub patterns : box.patterns ≤ length shelf.patterns
  pub records : box.records ≤ length shelf.records
  pub bytes : box.bytes ≤ length shelf.bytes

-- a box with its shelf
pub record World (C : Type 0) : Type 0 where
  pub box : Box
  pub shelf : Shelf C

-- what a box holds, with the shelf that is lent
abbrev pub world_of : {C : Type 0} → Held → Lent C → World C
world_of h s = record { box = box_of h; shelf = shelf_of s }

-- the list with new elements written from a place on
abbrev pub written : {A : Type 0} → ℕ → List A → List A → List A
written at new old = take at old ++ (new ++ drop (at + length new) old)

-- n elements from a place on
abbrev pub part : {A : Type 0} → ℕ → ℕ → List A → List A
part first n xs = take n (drop first xs)

-- the form that a box reads from its shelf
abbrev pub form_of : {C : Type 0} → Box → Shelf C → Tab C
form_of box shelf = record { starts = box.starts; finals = box.finals; rules = take box.form_rules shelf.rules }

abbrev pub pattern_entry : {C : Type 0} → Shelf C → ℕ → PatternEntry
pattern_entry shelf p = slice_index_or shelf.patterns p (record { first = 0; count = 0; starts = 0; finals = 0 })

abbrev pub record_entry : {C : Type 0} → Shelf C → ℕ → RecordEntry
record_entry shelf r = slice_index_or shelf.records r (record { first = 0; count = 0 })

-- the pattern, and the record's bytes, of which an entry tells
abbrev pub pattern_at : {C : Type 0} → Shelf C → PatternEntry → Tab C
pattern_at shelf e = record { starts = e.starts; finals = e.finals; rules = part e.first e.count shelf.rules }

abbrev pub record_at : {C : Type 0} → Shelf C → RecordEntry → List ℕ
record_at shelf e = part e.first e.count shelf.bytes
