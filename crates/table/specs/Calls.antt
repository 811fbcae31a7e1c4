-- What `fits` and `readings` answer.
use Rattle.std.specs.Prelude.{◌≡◌, ℕ, ◌≤◌, Bool, true, ◌⊎◌, ◌↔◌, Option, Result, MatchResult}
use Rattle.record.specs.declared.run.Node.{Node}
use Rattle.record.specs.Run.{run_at}
use Rattle.table.specs.declared.fault.Role.{Role}
use Rattle.table.specs.declared.fault.Role.TheVariants.{Form, Pattern}
use Rattle.table.specs.declared.fault.Fault.{Fault}
use Rattle.table.specs.Table.{Tab}
use Rattle.table.specs.Check.{SoundTable, FaultyTable}
use Rattle.table.specs.Scratch.{needed, Short}
use Rattle.table.specs.Reading.{Fits, Counts}

-- the table passes in its role, and the scratch suffices for the run
pub record Admitted {C : Type 0} (role : Role) (T : Tab C) (top len : ℕ) : Type 0 where
  pub table : SoundTable role T
  pub room : needed top ≤ len

-- refused for the table, else for the scratch
abbrev pub Refused : {C : Type 0} → Role → Tab C → ℕ → ℕ → Fault → Type 0
Refused role T top len e = FaultyTable role T e ⊎ ((SoundTable role T) × (Short role top len e))

-- whether the run at the top place fits the form
abbrev pub FitsAnswer : {C : Type 0} → (C → ℕ → Bool) → Tab C → (ℕ → Option Node) → ℕ → ℕ → Result Bool Fault → Type 0
FitsAnswer kinds T seen top len r =
    MatchResult r (λ b. (Admitted Form T top len) × ((b ≡ true) ↔ Fits kinds T (run_at seen top))) (λ e. Refused Form T top len e)

-- how many readings the run at the top place has under the pattern, 2 for two or more
abbrev pub ReadingsAnswer : {C : Type 0} → (C → ℕ → Bool) → Tab C → (ℕ → Option Node) → ℕ → ℕ → Result ℕ Fault → Type 0
ReadingsAnswer kinds T seen top len r =
    MatchResult r (λ n. (Admitted Pattern T top len) × (Counts kinds T (run_at seen top) n)) (λ e. Refused Pattern T top len e)
