-- Boxes to which the calls of a box file lead.
use Rattle.std.specs.Prelude.{◌≡◌, ℕ, Bool, false, List, [], ◌∷◌, ◌++◌, take, Some, None, Err, Option, Result}
use Rattle.table.specs.ClassFault.{ClassFault}
use Rattle.table.specs.Table.{Tab, At}
use Rattle.boxes.specs.Shelf.{Shelf, Box}
use Rattle.boxes.specs.declared.fault.Fault.{Fault}
use Rattle.examine.specs.declared.line.Line.{Line}
use Rattle.boxes.specs.Calls.{Lays, Admits, Files}
use Rattle.boxes.specs.Book.{Call, Event, laid, lay, admit, file, History}
use Rattle.notation.specs.declared.value.ClassText.{ClassText}
use Rattle.notation.specs.declared.value.TableText.{TableText}
use Rattle.notation.specs.declared.value.PatternText.{PatternText}
use Rattle.notation.specs.declared.value.RecordText.{RecordText}
use Rattle.notation.specs.declared.value.Entry.{Entry}
use Rattle.notation.specs.declared.value.Entry.TheVariants.{Pattern, Record}
use Rattle.replay.specs.declared.stop.Stop.{Stop}
use Rattle.replay.specs.Stop.{TableStops, BytesStop}
use Rattle.replay.specs.Written.{TableWritten}

-- a call that was not refused
abbrev pub made : {C : Type 0} → Call C → Event C
made c = record { call = c; refused = false }

module _ {C : Type 0} (kinds : C → ℕ → Bool) (writes : ClassText → Option (Result C ClassFault) → Type 0) where
  -- the calls of a box file, the latest first, none of them refused: its form is laid, then each pattern is admitted and each record filed
  pub data Tells (form : TableText) : List Entry → List (Event C) → Type 0 where
    lays : (F : Tab C) → TableWritten writes form F → Tells form [] (made (lay F) ∷ [])
    admits : {es : List Entry} {vs : List (Event C)} → Tells form es vs
        → (p : PatternText) (P : Tab C) (sheet helper : ℕ)
        → TableWritten writes p.table P
        → Tells form (es ++ Pattern p ∷ []) (made (admit P sheet helper) ∷ vs)
    files : {es : List Entry} {vs : List (Event C)} → Tells form es vs
        → (r : RecordText) (index scratch : ℕ)
        → Tells form (es ++ Record r ∷ []) (made (file r.bytes.items index scratch) ∷ vs)

  -- these calls lead to the box and the shelf
  pub record Came (form : TableText) (es : List Entry) (box : Box) (shelf : Shelf C) : Type 0 where
    pub events : List (Event C)
    pub tells : Tells form es events
    pub history : History kinds events (laid box) shelf

  -- a call that is not refused leads from a laid box and its shelf to others
  abbrev pub Leads : Call C → Box → Shelf C → Box → Shelf C → Type 0
  Leads c box shelf box' shelf' =
      (vs : List (Event C)) → History kinds vs (laid box) shelf → History kinds (made c ∷ vs) (laid box') shelf'

  -- a pattern as written was admitted
  pub record Admitted (t : TableText) (box : Box) (shelf : Shelf C) (box' : Box) (shelf' : Shelf C) : Type 0 where
    pub pattern : Tab C
    pub sheet : ℕ
    pub helper : ℕ
    pub written : TableWritten writes t pattern
    pub leads : Leads (admit pattern sheet helper) box shelf box' shelf'

  -- bytes were filed
  pub record Filed (bytes : List ℕ) (box : Box) (shelf : Shelf C) (box' : Box) (shelf' : Shelf C) : Type 0 where
    pub index : ℕ
    pub scratch : ℕ
    pub leads : Leads (file bytes index scratch) box shelf box' shelf'

  -- the call of an entry was made
  abbrev pub Entered : Entry → Box → Shelf C → Box → Shelf C → Type 0
  Entered (Pattern p) = Admitted p.table
  Entered (Record r) = Filed r.bytes.items

  -- a form as written, a pattern as written, or bytes were refused by this fault
  pub record LayRefused (t : TableText) (shelf : Shelf C) (f : Fault) : Type 0 where
    pub form : Tab C
    pub written : TableWritten writes t form
    pub refused : Lays form shelf (Err f) shelf

  pub record AdmitRefused (t : TableText) (box : Box) (shelf : Shelf C) (f : Fault) : Type 0 where
    pub pattern : Tab C
    pub sheet : ℕ
    pub helper : ℕ
    pub lines : List Line
    pub written : TableWritten writes t pattern
    pub refused : Admits (record { box = box; shelf = shelf }) pattern sheet helper kinds lines (Err f) (record { box = box; shelf = shelf })

  pub record FileRefused (bytes : List ℕ) (box : Box) (shelf : Shelf C) (f : Fault) : Type 0 where
    pub index : ℕ
    pub scratch : ℕ
    pub refused : Files kinds (record { box = box; shelf = shelf }) bytes index scratch (Err f) (record { box = box; shelf = shelf })

  -- why the call of an entry stops
  abbrev pub EntryStops : Entry → Box → Shelf C → Stop → Type 0
  EntryStops (Pattern p) box shelf = TableStops writes p.table.rules.items (AdmitRefused p.table box shelf)
  EntryStops (Record r) box shelf = BytesStop (FileRefused r.bytes.items box shelf)

  -- the call of the form, or of an entry, stops: those before it were made, and the shelf is as they left it
  abbrev pub StoppedAt : TableText → List Entry → Shelf C → Option ℕ → Stop → Shelf C → Type 0
  StoppedAt form es shelf None stop shelf' = (shelf' ≡ shelf) × TableStops writes form.rules.items (LayRefused form shelf) stop
  StoppedAt form es shelf (Some k) stop shelf' =
      (box : Box) × (e : Entry) × At es k e × Came form (take k es) box shelf' × EntryStops e box shelf' stop
