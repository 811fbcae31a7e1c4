-- How far a search has come; no promise to a caller of the crate.
use Rattle.std.specs.Prelude.{◌≡◌, ℕ, ◌<◌, Bool, true, ◌&&◌}
use Rattle.table.specs.Sets.{bit}
use Rattle.examine.specs.declared.fact.Fact.{Fact}
use Rattle.examine.specs.declared.line.LineStep.{LineStep}
use Rattle.examine.specs.declared.turn.Side.TheVariants.{After}
use Rattle.examine.specs.Facts.{poised, Leads, Joins}
use Rattle.examine.specs.Search.{Setting, State, line_of, Known, LedBy}
use Rattle.examine.specs.Turns.{Crossed}

abbrev pub all_final : {C : Type 0} → Setting C → ℕ → ℕ → ℕ → Bool
all_final G f p q = bit G.form.finals f && (bit G.pattern.finals p && bit G.pattern.finals q)

-- what is read from final states is known
abbrev pub Begun : {C : Type 0} → Setting C → State → ℕ → ℕ → ℕ → Type 0
Begun G s f p q = all_final G f p q ≡ true → Known G s (poised f p q)

-- line b was taken as what follows, with the lines below a inside
pub record Followed {C : Type 0} (G : Setting C) (s t : State) (a b : ℕ) : Type 0 where
  pub empties : (r : ℕ) → LedBy G s t b r
  pub joins : (r₀ r₁ r₂ : ℕ) → Crossed G s t (record { side = After; line = b; bound = a }) r₀ r₁ r₂

-- every pair of a line inside below a and a line after below b was tried, and every empty rule to a line below b
pub record Tried {C : Type 0} (G : Setting C) (s : State) (a b : ℕ) : Type 0 where
  pub empties : (r : ℕ) (x y : Fact) (e : LineStep) → Leads G.pattern (line_of G s x) r x y e → Known G s x → line_of G s x < b → Known G s y
  pub joins : (k r₀ r₁ r₂ : ℕ) (x y z : Fact) → Joins G.kinds G.form G.pattern k r₀ r₁ r₂ x y z → Known G s x → Known G s y → line_of G s x < a → line_of G s y < b → Known G s z
