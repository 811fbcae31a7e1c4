-- The laws of tables over a class.
use Rattle.std.specs.Prelude.{◌≡◌, ℕ, ◌<◌, ◌≤◌, Bool, true, List, Option, Result, ◌==◌, ◌≢◌}
use Rattle.record.specs.declared.run.Node.{Node}
use Rattle.record.specs.Run.{Run}
use Rattle.table.specs.declared.fault.Role.{Role}
use Rattle.table.specs.declared.fault.Role.TheVariants.{Form}
use Rattle.table.specs.declared.fault.Fault.{Fault}
use Rattle.table.specs.Sets.{bit}
use Rattle.table.specs.Table.{Tab}
use Rattle.table.specs.Mask.{mask_kinds}
use Rattle.table.specs.Range.{range_kinds}
use Rattle.table.specs.Check.{limit, SoundTable, StateCount, OneCheck}
use Rattle.table.specs.Reading.{Skips, Fits, Counts, Twofold}
use Rattle.table.specs.Calls.{FitsAnswer, ReadingsAnswer}
use Rattle.table.specs.Marks.{MarksAnswer}

-- what the calls promise leaves one answer, and `marks` answers as `readings` does
pub record OneOutcome {C : Type 0} (kinds : C → ℕ → Bool) : Type 0 where
  pub fits : (T : Tab C) (seen : ℕ → Option Node) (top len : ℕ) (r s : Result Bool Fault) → FitsAnswer kinds T seen top len r → FitsAnswer kinds T seen top len s → r ≡ s
  pub readings : (T : Tab C) (seen : ℕ → Option Node) (top len : ℕ) (r s : Result ℕ Fault) → ReadingsAnswer kinds T seen top len r → ReadingsAnswer kinds T seen top len s → r ≡ s
  pub marks : (T : Tab C) (seen : ℕ → Option Node) (top len : ℕ) (xs : List ℕ) (r : Result ℕ Fault) → MarksAnswer kinds T seen top len xs r → ReadingsAnswer kinds T seen top len r

-- the state count of a table: there is one, and if the table passes in a role it is within the limit
pub record CountedStates {C : Type 0} (T : Tab C) : Type 0 where
  pub some : (n : ℕ) × StateCount T n
  pub only : (m n : ℕ) → StateCount T m → StateCount T n → m ≡ n
  pub within : (role : Role) → SoundTable role T → (n : ℕ) → StateCount T n → n ≤ limit role

-- what masks and ranges mean, whatever they store
pub record Meanings : Type 0 where
  pub mask : (m k : ℕ) → (m ≢ 0) → mask_kinds m k ≡ bit m k
  pub mask_zero : (k : ℕ) → mask_kinds 0 k ≡ (0 == k)
  pub range : (first last k : ℕ) → first ≤ k → k ≤ last → range_kinds first last k ≡ true
  pub range_only : (first last k : ℕ) → range_kinds first last k ≡ true → (first ≤ k) × (last < k → first ≡ k)
  pub range_first : (first last k : ℕ) → last < first → range_kinds first last k ≡ (first == k)

pub record Laws {C : Type 0} (kinds : C → ℕ → Bool) : Type 0 where
  -- a table passes the check in a role, or is refused in one way, and never both
  pub check : (T : Tab C) → OneCheck T
  -- a form that passes has no empty rules
  pub plain : (T : Tab C) → SoundTable Form T → (r q t : ℕ) → Skips T r q t → ⊥
  -- the state count
  pub states : (T : Tab C) → CountedStates T
  -- a run has no reading, one and no other, or two that differ, and not two of these
  pub count : (T : Tab C) (w : Run) → (n : ℕ) × Counts kinds T w n
  pub one_count : (T : Tab C) (w : Run) (m n : ℕ) → Counts kinds T w m → Counts kinds T w n → m ≡ n
  -- where no run that fits the form has two readings, one that fits has at most one
  pub at_most_one : (F P : Tab C) → (Twofold kinds F P → ⊥) → (w : Run) → Fits kinds F w → (n : ℕ) → Counts kinds P w n → n ≤ 1
  -- the calls have one outcome
  pub outcomes : OneOutcome kinds
  -- masks and ranges
  pub meanings : Meanings
