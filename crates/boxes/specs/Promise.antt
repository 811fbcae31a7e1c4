-- The promise over histories.
use Rattle.std.specs.Prelude.{◌≡◌, ℕ, ◌<◌, ◌≤◌, Bool, ◌⊎◌, ◌↔◌, List, [], ◌∷◌, ◌++◌, length, drop, Ok, Err, Result, slice_index_or}
use Rattle.std.proofs.Math.Option.{some}
use Rattle.record.specs.Limits.{max_nodes}
use Rattle.table.specs.declared.fault.Role.TheVariants.{Pattern}
use Rattle.table.specs.declared.fault.Cause.TheVariants.{Bounds, EmptyRule, ShortBuffer, Double}
use Rattle.table.specs.Fault.{refusal}
use Rattle.table.specs.Table.{Tab, At}
use Rattle.table.specs.Reading.{Twofold}
use Rattle.boxes.specs.declared.fault.Cause.TheVariants.{NoReading, ShortList}
use Rattle.boxes.specs.declared.fault.Fault.{Fault}
use Rattle.boxes.specs.declared.fault.Fault.TheVariants.{Class, Record, Table, Boxes}
use Rattle.boxes.specs.declared.shelf.Spot.{Spot}
use Rattle.boxes.specs.Limits.{max_mark, scratch_needs}
use Rattle.boxes.specs.Fault.{number, fault}
use Rattle.boxes.specs.Check.{Check, unless, each, Passes, Answers}
use Rattle.boxes.specs.Shelf.{Shelf, Box, World, form_of}
use Rattle.boxes.specs.Record.{Read, Alike, spots}
use Rattle.examine.specs.declared.line.Line.{Line}
use Rattle.examine.specs.Examine.{Shown}
use Rattle.boxes.specs.Calls.{Lays, buffers_checks, known_checks, checks_before_12, Admits, Files, Listed, list_check, Finds}
use Rattle.boxes.specs.Book.{Event, Book, book, Stage, laid, sealed, History}

-- every record of the book fits the form of the book
abbrev pub AllFit : {C : Type 0} → (C → ℕ → Bool) → Book C → Type 0
AllFit {C} kinds b = (r : ℕ) (bytes : List ℕ) → At b.records r bytes → (F : Tab C) × (b.form ≡ some F) × (Read kinds F bytes)

-- each has at most one reading under each pattern of the book
abbrev pub AllSingle : {C : Type 0} → (C → ℕ → Bool) → Book C → Type 0
AllSingle {C} kinds b =
    (p r : ℕ) (P : Tab C) (bytes : List ℕ) → At b.patterns p P → At b.records r bytes → (x y : Read kinds P bytes) → Alike x y

abbrev pub book_pattern : {C : Type 0} → Book C → ℕ → Tab C
book_pattern b p = slice_index_or b.patterns p (record { starts = 0; finals = 0; rules = [] })

abbrev pub book_record : {C : Type 0} → Book C → ℕ → List ℕ
book_record b r = slice_index_or b.records r []

-- what find does, by the book alone: its checks that are left, in their order
module _ {C : Type 0} (kinds : C → ℕ → Bool) (b : Book C) (p r m index scratch : ℕ) (out : List Spot) where
  abbrev pub book_checks : List Check
  book_checks =
      each (known_checks (length b.patterns) (length b.records) p r m)
      ∷ each (buffers_checks Pattern index scratch)
      ∷ unless (Read kinds (book_pattern b p) (book_record b r)) (fault NoReading 0)
      ∷ list_check kinds (book_pattern b p) (book_record b r) m out
      ∷ []

  abbrev pub FindsByBook : Result ℕ Fault → List Spot → Type 0
  FindsByBook = Answers book_checks out (Listed kinds (book_pattern b p) (book_record b r) m out)

-- what find says, in single sentences
pub record Found {C : Type 0} (kinds : C → ℕ → Bool) (b : Book C) (p r m index scratch : ℕ) (out : List Spot)
    (a : Result ℕ Fault) (after : List Spot) : Type 0 where
  -- for numbers of the book and buffers long enough: the marked nodes of the reading, if there is one
  pub lists : (P : Tab C) (bytes : List ℕ) → At b.patterns p P → At b.records r bytes → m ≤ max_mark
      → max_nodes ≤ index → scratch_needs ≤ scratch
      → (x : Read kinds P bytes) → length (spots m x) ≤ length out
      → (a ≡ Ok (length (spots m x))) × (after ≡ spots m x ++ drop (length (spots m x)) out)
  -- 15, with the entries needed, if the list is too short for them
  pub short : (P : Tab C) (bytes : List ℕ) → At b.patterns p P → At b.records r bytes → m ≤ max_mark
      → max_nodes ≤ index → scratch_needs ≤ scratch
      → (x : Read kinds P bytes) → length out < length (spots m x)
      → (a ≡ Err (fault ShortList (length (spots m x)))) × (after ≡ out)
  -- 14 exactly if there is none
  pub none_there : (P : Tab C) (bytes : List ℕ) → At b.patterns p P → At b.records r bytes → m ≤ max_mark
      → max_nodes ≤ index → scratch_needs ≤ scratch
      → (a ≡ Err (fault NoReading 0)) ↔ (Read kinds P bytes → ⊥)
  -- no fault but 8, 13, 14 and 15
  pub faults : (f : Fault) → a ≡ Err f → (number f ≡ 8) ⊎ (number f ≡ 13) ⊎ (number f ≡ 14) ⊎ (number f ≡ 15)
  -- 13 exactly for a number not in the book or a mark above the highest
  pub unknown : ((f : Fault) × (a ≡ Err f) × (number f ≡ 13)) ↔ ((length b.patterns ≤ p) ⊎ (length b.records ≤ r) ⊎ (max_mark < m))

abbrev pub AtStage : Stage → Box → Type 0
AtStage stage box = (stage ≡ laid box) ⊎ (stage ≡ sealed box)

-- what holds of a book with its stage and shelf
pub record Holds {C : Type 0} (kinds : C → ℕ → Bool) (b : Book C) (stage : Stage) (shelf : Shelf C) : Type 0 where
  pub fit : AllFit kinds b
  pub single : AllSingle kinds b
  pub find : (box : Box) → AtStage stage box → (p r m index scratch : ℕ) (out : List Spot) (a : Result ℕ Fault) (after : List Spot)
      → Finds kinds (record { box = box; shelf = shelf }) p r m index scratch out a after
      → (FindsByBook kinds b p r m index scratch out a after) × (Found kinds b p r m index scratch out a after)

-- admit refuses a pattern that passes the checks before for two readings exactly if some run, however large, fits the form
-- and has two, and the sheet then shows such a run
abbrev pub Exact12 : {C : Type 0} → (C → ℕ → Bool) → Type 0
Exact12 {C} kinds =
    (w : World C) (P : Tab C) (sheet helper : ℕ) (lines : List Line) (a : Result (Unit {0}) Fault) (after : World C)
    → Admits w P sheet helper kinds lines a after
    → Passes (checks_before_12 w P sheet helper)
    → (((top : ℕ) × (a ≡ Err (Table (refusal Pattern Double top)))) ↔ Twofold kinds (form_of w.box w.shelf) P)
    × ((top : ℕ) → a ≡ Err (Table (refusal Pattern Double top)) → Shown kinds (form_of w.box w.shelf) P lines top)

-- what is kept in every history
abbrev pub Always : {C : Type 0} → (C → ℕ → Bool) → Type 0
Always {C} kinds =
    (events : List (Event C)) (stage : Stage) (shelf : Shelf C) → History kinds events stage shelf → Holds kinds (book events) stage shelf

pub record Promise {C : Type 0} (kinds : C → ℕ → Bool) : Type 0 where
  pub exact : Exact12 kinds
  pub always : Always kinds

-- two answers are alike, as far as a view of their faults shows
abbrev pub Seen : {R V : Type 0} → (Fault → V) → Result R Fault → Result R Fault → Type 0
Seen view (Err f) (Err g) = view f ≡ view g
Seen view (Err f) (Ok r) = ⊥
Seen view (Ok r) (Err f) = ⊥
Seen view (Ok r) (Ok s) = r ≡ s

-- a fault, without the place of 12: which double is shown is free
abbrev pub but_top : Fault → Fault
but_top f = elim f [ Class e ↦ Class e | Record e ↦ Record e | Table e ↦ Table (elim e.cause [ Bounds ↦ e | EmptyRule ↦ e | ShortBuffer ↦ e | Double ↦ refusal e.role Double 0 ]) | Boxes e ↦ Boxes e ]

-- the relations leave nothing open: answer and state after are fixed
abbrev pub Fixes : {S R V : Type 0} → (Fault → V) → (Result R Fault → S → Type 0) → Type 0
Fixes {S} {R} {V} view Q = (a a' : Result R Fault) (s s' : S) → Q a s → Q a' s' → (Seen view a a') × (s ≡ s')

pub record Fixed {C : Type 0} (kinds : C → ℕ → Bool) : Type 0 where
  pub lay : (F : Tab C) (shelf : Shelf C) → Fixes (λ f. f) (Lays F shelf)
  pub admit : (w : World C) (P : Tab C) (sheet helper : ℕ) (lines : List Line) → Fixes but_top (Admits w P sheet helper kinds lines)
  pub file : (w : World C) (bytes : List ℕ) (index scratch : ℕ) → Fixes (λ f. f) (Files kinds w bytes index scratch)
  pub find : (w : World C) (p r m index scratch : ℕ) (out : List Spot) → Fixes (λ f. f) (Finds kinds w p r m index scratch out)
