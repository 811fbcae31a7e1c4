-- Events, the book that they write, and histories of calls.
use Rattle.std.specs.Prelude.{ℕ, Bool, true, false, List, [], ◌∷◌, ◌++◌, Ok, Err, Result}
use Rattle.std.proofs.Math.Option.{Option, none, some}
use Rattle.table.specs.Table.{Tab}
use Rattle.boxes.specs.declared.fault.Fault.{Fault}
use Rattle.boxes.specs.declared.shelf.Spot.{Spot}
use Rattle.examine.specs.declared.line.Line.{Line}
use Rattle.boxes.specs.Shelf.{Shelf, Box, World}
use Rattle.boxes.specs.Calls.{Lays, Admits, Files, Finds}

-- a call's name and arguments, of buffers the lengths
pub data Call (C : Type 0) : Type 0 where
  lay : Tab C → Call C
  admit : Tab C → (sheet helper : ℕ) → Call C
  file : List ℕ → (index scratch : ℕ) → Call C
  find : (pattern record_number mark index scratch : ℕ) → List Spot → Call C
  seal : Call C

-- a call, and whether it was refused
pub record Event (C : Type 0) : Type 0 where
  pub call : Call C
  pub refused : Bool

abbrev pub was_refused : {R : Type 0} → Result R Fault → Bool
was_refused (Err f) = true
was_refused (Ok r) = false

abbrev pub event : {C R : Type 0} → Call C → Result R Fault → Event C
event c a = record { call = c; refused = was_refused a }

-- what the calls wrote down
pub record Book (C : Type 0) : Type 0 where
  pub form : Option (Tab C)
  pub patterns : List (Tab C)
  pub records : List (List ℕ)

module _ {C : Type 0} where
  -- what a call writes that is not refused
  abbrev pub write : Call C → Book C → Book C
  write (lay F) b = record b { form = some F }
  write (admit P sheet helper) b = record b { patterns = b.patterns ++ P ∷ [] }
  write (file bytes index scratch) b = record b { records = b.records ++ bytes ∷ [] }
  write (find p r m index scratch out) b = b
  write seal b = b

  abbrev pub unless_refused : Bool → Call C → Book C → Book C
  unless_refused true c b = b
  unless_refused false c b = write c b

  -- the book of events, the latest event first
  abbrev pub book : List (Event C) → Book C
  book [] = record { form = none; patterns = []; records = [] }
  book (e ∷ es) = unless_refused e.refused e.call (book es)

pub data Stage : Type 0 where
  new : Stage
  laid sealed : Box → Stage

-- the stage after lay
abbrev pub lay_leads : Result Box Fault → Stage
lay_leads (Err f) = new
lay_leads (Ok box) = laid box

-- events, latest first, with the box and the shelf that they lead to
pub data History {C : Type 0} (kinds : C → ℕ → Bool) : List (Event C) → Stage → Shelf C → Type 0 where
  begins : (shelf : Shelf C) → History kinds [] new shelf
  lays : {es : List (Event C)} {shelf after : Shelf C} → History kinds es new shelf
      → (F : Tab C) (a : Result Box Fault)
      → Lays F shelf a after
      → History kinds (event (lay F) a ∷ es) (lay_leads a) after
  admits : {es : List (Event C)} {box : Box} {shelf : Shelf C} → History kinds es (laid box) shelf
      → (P : Tab C) (sheet helper : ℕ) (lines : List Line) (a : Result (Unit {0}) Fault) (after : World C)
      → Admits (record { box = box; shelf = shelf }) P sheet helper kinds lines a after
      → History kinds (event (admit P sheet helper) a ∷ es) (laid after.box) after.shelf
  files : {es : List (Event C)} {box : Box} {shelf : Shelf C} → History kinds es (laid box) shelf
      → (bytes : List ℕ) (index scratch : ℕ) (a : Result (Unit {0}) Fault) (after : World C)
      → Files kinds (record { box = box; shelf = shelf }) bytes index scratch a after
      → History kinds (event (file bytes index scratch) a ∷ es) (laid after.box) after.shelf
  finds : {es : List (Event C)} {box : Box} {shelf : Shelf C} → History kinds es (laid box) shelf
      → (p r m index scratch : ℕ) (out : List Spot) (a : Result ℕ Fault) (after : List Spot)
      → Finds kinds (record { box = box; shelf = shelf }) p r m index scratch out a after
      → History kinds (event (find p r m index scratch out) a ∷ es) (laid box) shelf
  finds_sealed : {es : List (Event C)} {box : Box} {shelf : Shelf C} → History kinds es (sealed box) shelf
      → (p r m index scratch : ℕ) (out : List Spot) (a : Result ℕ Fault) (after : List Spot)
      → Finds kinds (record { box = box; shelf = shelf }) p r m index scratch out a after
      → History kinds (event (find p r m index scratch out) a ∷ es) (sealed box) shelf
  seals : {es : List (Event C)} {box : Box} {shelf : Shelf C} → History kinds es (laid box) shelf
      → History kinds (record { call = seal; refused = false } ∷ es) (sealed box) shelf
