-- Checks made in order: the first that fails gives the answer.
use Rattle.std.specs.Prelude.{◌≡◌, ◌⊎◌, List, [], ◌∷◌, Ok, Err, Result}
use Rattle.boxes.specs.declared.fault.Fault.{Fault}

-- a check: which fault it gives, and what holds if it gives none
pub record Check : Type 1 where
  pub fails : Fault → Type 0
  pub passes : Type 0

abbrev pub when : Type 0 → Fault → Check
when A f = record { fails = λ g. A × (g ≡ f); passes = A → ⊥ }

abbrev pub unless : Type 0 → Fault → Check
unless A f = record { fails = λ g. (A → ⊥) × (g ≡ f); passes = A }

-- a lower layer's check: its refusals come up unchanged
abbrev pub lifted : {E : Type 0} → (E → Fault) → (E → Type 0) → Type 0 → Check
lifted {E} up refused passes = record { fails = λ g. (e : E) × (refused e) × (g ≡ up e); passes = passes }

-- the first of the checks that fails gives f
abbrev pub Fails : List Check → Fault → Type 0
Fails [] f = ⊥
Fails (c ∷ cs) f = (c.fails f) ⊎ (c.passes × (Fails cs f))

abbrev pub Passes : List Check → Type 0
Passes [] = Unit {0}
Passes (c ∷ cs) = c.passes × (Passes cs)

-- several checks as one
abbrev pub each : List Check → Check
each cs = record { fails = Fails cs; passes = Passes cs }

-- a call: refused by the first check that fails, with nothing changed, or done
abbrev pub Answers : {S R : Type 0} → List Check → S → (R → S → Type 0) → Result R Fault → S → Type 0
Answers checks before so (Err f) after = (Fails checks f) × (after ≡ before)
Answers checks before so (Ok r) after = (Passes checks) × (so r after)
