-- What examining refuses once the checks before it have passed.
use Rattle.std.proofs.Common.{ℕ, Bool, List, [], ◌∷◌, length, Ok, Err, ap, inl, inr, arith}
use Rattle.table.specs.declared.fault.Role.TheVariants.{Form, Pattern}
use Rattle.table.specs.declared.fault.Fault.{Fault as TableFault}
use Rattle.table.specs.Table.{Tab}
use Rattle.table.specs.Check.{SoundTable}
use Rattle.table.proofs.Outcomes.{one_check}
use Rattle.examine.specs.declared.line.Line.{Line}
use Rattle.examine.specs.Examine.{Refused}
use Rattle.boxes.specs.declared.fault.Fault.TheVariants.{Table}
use Rattle.boxes.specs.Check.{Check, Passes, each}
use Rattle.boxes.specs.Shelf.{World}
use Rattle.boxes.specs.Calls.{table_check, sheet_checks, admit_room_checks, double_check}
use Rattle.boxes.proofs.Lawful.{error_apart, needs_one}

module _ {C : Type 0} (kinds : C → ℕ → Bool) (F P : Tab C) (sheet helper : ℕ) (lines : List Line)
    (form : SoundTable Form F) (pattern : SoundTable Pattern P) (room : Passes (sheet_checks F P sheet helper)) where
  -- the pattern is refused for two readings, and for nothing else
  pub refused_double : (e : TableFault) → Refused kinds F P sheet helper lines e → (double_check kinds F P lines).fails (Table e)
  refused_double e (inl f) = absurd (error_apart e tt ((one_check F).only Form (Err e) (Ok tt) f form))
  refused_double e (inr (inl f)) = absurd (error_apart e tt ((one_check P).only Pattern (Err e) (Ok tt) f.1 pattern))
  refused_double e (inr (inr (inl f))) = absurd (elim f.lacks [
    | inl l ↦ let n = needs_one F P f.needed room.0.0 f.needs room.0.1 in let g = room.0.2 in omega arith
    | inr l ↦ let n = needs_one F P f.needed room.1.0.0 f.needs room.1.0.1 in let g = room.1.0.2 in omega arith
  ])
  refused_double e (inr (inr (inr f))) = (f.1.top, (f.1.twofold, f.1.shows), ap Table f.1.is)

-- the checks of admitting after that of the lengths
abbrev pub after_lengths : {C : Type 0} → (C → ℕ → Bool) → Tab C → (sheet helper : ℕ) → List Line → World C → Tab C → List Check
after_lengths kinds P sheet helper lines w F =
    table_check Form F
    ∷ table_check Pattern P
    ∷ each (sheet_checks F P sheet helper)
    ∷ each (admit_room_checks w.box w.shelf (length P.rules))
    ∷ double_check kinds F P lines
    ∷ []
