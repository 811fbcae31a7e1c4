-- The calls: for each the checks in their order, and what it does.
use Rattle.std.specs.Prelude.{◌≡◌, ℕ, ◌+◌, ◌<◌, ◌≤◌, Bool, ◌⊎◌, List, [], ◌∷◌, ◌++◌, length, drop, Result}
use Rattle.record.specs.Limits.{max_nodes}
use Rattle.record.specs.Fault.{short_list}
use Rattle.record.specs.Record.{IsRecord, Refused}
use Rattle.table.specs.declared.fault.Role.{Role}
use Rattle.table.specs.declared.fault.Role.TheVariants.{Form, Pattern}
use Rattle.table.specs.declared.fault.Cause.TheVariants.{ShortBuffer, Double}
use Rattle.table.specs.Fault.{refusal}
use Rattle.table.specs.Table.{Tab}
use Rattle.table.specs.Reading.{Twofold}
use Rattle.table.specs.Check.{SoundTable, FaultyTable}
use Rattle.boxes.specs.declared.fault.Cause.TheVariants.{ShortShelf, NoRoom, NoFit, Unknown, NoReading, ShortList, TwoReadings}
use Rattle.boxes.specs.declared.fault.Fault.{Fault}
use Rattle.boxes.specs.declared.fault.Fault.TheVariants.{Record, Table}
use Rattle.boxes.specs.declared.shelf.PatternEntry.{PatternEntry}
use Rattle.boxes.specs.declared.shelf.RecordEntry.{RecordEntry}
use Rattle.boxes.specs.declared.shelf.Spot.{Spot}
use Rattle.boxes.specs.Limits.{max_patterns, max_records, max_mark, scratch_needs}
use Rattle.boxes.specs.Fault.{fault}
use Rattle.boxes.specs.Check.{Check, when, unless, lifted, each, Answers}
use Rattle.boxes.specs.Shelf.{Shelf, Box, World, written, form_of, pattern_entry, record_entry, pattern_at, record_at}
use Rattle.boxes.specs.Record.{Read, Twice, spots}
use Rattle.examine.specs.declared.line.Line.{Line}
use Rattle.examine.specs.Examine.{Needs, Shown}

-- 9: a list shorter than its used count
abbrev pub lengths_checks : {C : Type 0} → Box → Shelf C → List Check
lengths_checks box shelf =
    when (length shelf.rules < box.rules) (fault ShortShelf 0)
    ∷ when (length shelf.patterns < box.patterns) (fault ShortShelf 1)
    ∷ when (length shelf.records < box.records) (fault ShortShelf 2)
    ∷ when (length shelf.bytes < box.bytes) (fault ShortShelf 3)
    ∷ []

abbrev pub lengths_check : {C : Type 0} → Box → Shelf C → Check
lengths_check box shelf = each (lengths_checks box shelf)

-- 6 and 7, as the table layer gives them
abbrev pub table_check : {C : Type 0} → Role → Tab C → Check
table_check role T = lifted Table (FaultyTable role T) (SoundTable role T)

-- 1 to 5, as the record layer gives them
abbrev pub record_check : List ℕ → Check
record_check bytes = lifted Record (Refused bytes) (IsRecord bytes)

-- 8: index, scratch, and what examining needs of sheet and helper
abbrev pub index_check : ℕ → Check
index_check index = when (index < max_nodes) (Record short_list)

abbrev pub scratch_check : Role → ℕ → Check
scratch_check role scratch = when (scratch < scratch_needs) (Table (refusal role ShortBuffer scratch_needs))

abbrev pub buffer_check : {C : Type 0} → Tab C → Tab C → ℕ → Check
buffer_check F P room =
    lifted (λ n. Table (refusal Pattern ShortBuffer n)) (λ n. (Needs F P n) × (room < n)) ((n : ℕ) × (Needs F P n) × (n ≤ room))

-- 12: its place is the sheet's top line
abbrev pub double_check : {C : Type 0} → (C → ℕ → Bool) → Tab C → Tab C → List Line → Check
double_check kinds F P lines =
    lifted (λ top. Table (refusal Pattern Double top)) (λ top. (Twofold kinds F P) × (Shown kinds F P lines top)) (Twofold kinds F P → ⊥)

-- lay
module _ {C : Type 0} (F : Tab C) (shelf : Shelf C) where
  abbrev pub lay_checks : List Check
  lay_checks =
      table_check Form F
      ∷ when (length shelf.rules < length F.rules) (fault NoRoom 0)
      ∷ []

  abbrev pub box_laid : Box
  box_laid =
      record { rules = length F.rules; patterns = 0; records = 0; bytes = 0; form_rules = length F.rules; starts = F.starts; finals = F.finals }

  abbrev pub shelf_laid : Shelf C
  shelf_laid = record shelf { rules = written 0 F.rules shelf.rules }

  abbrev pub Lays : Result Box Fault → Shelf C → Type 0
  Lays = Answers lay_checks shelf (λ box after. (box ≡ box_laid) × (after ≡ shelf_laid))

-- 8, sheet before helper
abbrev pub sheet_checks : {C : Type 0} → Tab C → Tab C → ℕ → ℕ → List Check
sheet_checks F P sheet helper = buffer_check F P sheet ∷ buffer_check F P helper ∷ []

-- 10, for one more pattern of so many rules
abbrev pub admit_room_checks : {C : Type 0} → Box → Shelf C → ℕ → List Check
admit_room_checks box shelf count =
    when (length shelf.rules < box.rules + count) (fault NoRoom 0)
    ∷ when ((max_patterns ≤ box.patterns) ⊎ (length shelf.patterns < box.patterns + 1)) (fault NoRoom 1)
    ∷ []

-- admit, with the lengths of its sheet and helper, and the lines that it leaves in the sheet
module _ {C : Type 0} (w : World C) (P : Tab C) (sheet helper : ℕ) where
  abbrev pub checks_before_12 : List Check
  checks_before_12 =
      let F = form_of w.box w.shelf in
      lengths_check w.box w.shelf
      ∷ table_check Form F
      ∷ table_check Pattern P
      ∷ each (sheet_checks F P sheet helper)
      ∷ each (admit_room_checks w.box w.shelf (length P.rules))
      ∷ []

  abbrev pub admitted : World C
  admitted =
      record {
        box = record w.box { rules = w.box.rules + length P.rules; patterns = w.box.patterns + 1 };
        shelf = record w.shelf {
          rules = written w.box.rules P.rules w.shelf.rules;
          patterns = written w.box.patterns (record { first = w.box.rules; count = length P.rules; starts = P.starts; finals = P.finals } ∷ []) w.shelf.patterns;
        };
      }

  module _ (kinds : C → ℕ → Bool) (lines : List Line) where
    abbrev pub admit_checks : List Check
    admit_checks = checks_before_12 ++ double_check kinds (form_of w.box w.shelf) P lines ∷ []

    abbrev pub Admits : Result (Unit {0}) Fault → World C → Type 0
    Admits = Answers admit_checks w (λ _ after. after ≡ admitted)

-- 8, index before scratch
abbrev pub buffers_checks : Role → ℕ → ℕ → List Check
buffers_checks role index scratch = index_check index ∷ scratch_check role scratch ∷ []

-- 10, for one more record of so many bytes
abbrev pub file_room_checks : {C : Type 0} → Box → Shelf C → ℕ → List Check
file_room_checks box shelf count =
    when ((max_records ≤ box.records) ⊎ (length shelf.records < box.records + 1)) (fault NoRoom 2)
    ∷ when (length shelf.bytes < box.bytes + count) (fault NoRoom 3)
    ∷ []

-- file, with the lengths of its index and scratch
module _ {C : Type 0} (kinds : C → ℕ → Bool) (w : World C) (bytes : List ℕ) (index scratch : ℕ) where
  abbrev pub file_checks : List Check
  file_checks =
      let F = form_of w.box w.shelf in
      lengths_check w.box w.shelf
      ∷ table_check Form F
      ∷ each (buffers_checks Form index scratch)
      ∷ record_check bytes
      ∷ each (file_room_checks w.box w.shelf (length bytes))
      ∷ unless (Read kinds F bytes) (fault NoFit 0)
      ∷ []

  abbrev pub filed : World C
  filed =
      record {
        box = record w.box { records = w.box.records + 1; bytes = w.box.bytes + length bytes };
        shelf = record w.shelf {
          records = written w.box.records (record { first = w.box.bytes; count = length bytes } ∷ []) w.shelf.records;
          bytes = written w.box.bytes bytes w.shelf.bytes;
        };
      }

  abbrev pub Files : Result (Unit {0}) Fault → World C → Type 0
  Files = Answers file_checks w (λ _ after. after ≡ filed)

-- what find lists: the marked nodes of the record's reading, before what it leaves of the list
module _ {C : Type 0} (kinds : C → ℕ → Bool) (P : Tab C) (bytes : List ℕ) (m : ℕ) (out : List Spot) where
  pub record Listed (n : ℕ) (after : List Spot) : Type 0 where
    pub reading : Read kinds P bytes
    pub count : n ≡ length (spots m reading)
    pub list : after ≡ spots m reading ++ drop n out

  -- 15: its place is the number of entries needed
  abbrev pub list_check : Check
  list_check =
      lifted (λ n. fault ShortList n) (λ n. (x : Read kinds P bytes) × (n ≡ length (spots m x)) × (length out < n))
      ((x : Read kinds P bytes) → length (spots m x) ≤ length out)

-- 13: no such pattern, record or mark, where there are so many patterns and records
abbrev pub known_checks : (patterns records p r m : ℕ) → List Check
known_checks patterns records p r m =
    when (patterns ≤ p) (fault Unknown 0)
    ∷ when (records ≤ r) (fault Unknown 1)
    ∷ when (max_mark < m) (fault Unknown 2)
    ∷ []

-- 9: what an entry tells of ends past the used count
abbrev pub entry_checks : Box → PatternEntry → RecordEntry → List Check
entry_checks box e d =
    when (box.rules < e.first + e.count) (fault ShortShelf 0)
    ∷ when (box.bytes < d.first + d.count) (fault ShortShelf 3)
    ∷ []

-- where find's pattern and record stand on the shelf
abbrev pub locate_checks : {C : Type 0} → World C → (p r m : ℕ) → List Check
locate_checks w p r m =
    lengths_check w.box w.shelf
    ∷ each (known_checks w.box.patterns w.box.records p r m)
    ∷ each (entry_checks w.box (pattern_entry w.shelf p) (record_entry w.shelf r))
    ∷ []

-- whether the bytes are a record with one reading under the pattern
abbrev pub read_checks : {C : Type 0} → (C → ℕ → Bool) → Tab C → List ℕ → (index scratch : ℕ) → List Check
read_checks kinds P bytes index scratch =
    each (buffers_checks Pattern index scratch)
    ∷ record_check bytes
    ∷ table_check Pattern P
    ∷ unless (Read kinds P bytes) (fault NoReading 0)
    ∷ when (Twice kinds P bytes) (fault TwoReadings 0)
    ∷ []

-- find, with the lengths of its index and scratch
module _ {C : Type 0} (kinds : C → ℕ → Bool) (w : World C) (p r m index scratch : ℕ) (out : List Spot) where
  abbrev pub find_checks : List Check
  find_checks =
      let P = pattern_at w.shelf (pattern_entry w.shelf p) in
      let bytes = record_at w.shelf (record_entry w.shelf r) in
      locate_checks w p r m ++ (read_checks kinds P bytes index scratch ++ list_check kinds P bytes m out ∷ [])

  abbrev pub Finds : Result ℕ Fault → List Spot → Type 0
  Finds = Answers find_checks out (Listed kinds (pattern_at w.shelf (pattern_entry w.shelf p)) (record_at w.shelf (record_entry w.shelf r)) m out)
