-- Facts about a form state and two pattern states, and how facts follow from facts.
use Rattle.std.specs.Prelude.{◌≡◌, ℕ, Bool, ◌≢◌}
use Rattle.table.specs.Sets.{Bit}
use Rattle.table.specs.Table.{Tab}
use Rattle.table.specs.Reading.{Reading, stop, skip, take, Skips, Takes}
use Rattle.examine.specs.declared.fact.Sort.{Sort}
use Rattle.examine.specs.declared.fact.Sort.TheVariants.{Together, Poised, Apart}
use Rattle.examine.specs.declared.fact.Fact.{Fact}
use Rattle.examine.specs.declared.line.LineStep.{LineStep}
use Rattle.examine.specs.declared.line.LineStep.TheVariants.{First, Second, Both}

-- the fact of a sort about three states
abbrev pub about : Sort → ℕ → ℕ → ℕ → Fact
about x f p q = record { sort = x; form = f; first = p; second = q }

-- some run is read from f by the form, and from p and from q by the pattern
abbrev pub together : ℕ → ℕ → ℕ → Fact
together f p q = about Together f p q

-- and the reading from q does not begin with an empty rule
abbrev pub poised : ℕ → ℕ → ℕ → Fact
poised f p q = about Poised f p q

-- and the two pattern readings, both from p, differ
abbrev pub apart : ℕ → ℕ → Fact
apart f p = about Apart f p p

-- a reading's first step is no empty rule
abbrev pub Steady : Reading → Type 0
Steady stop = Unit {0}
Steady (skip r ρ) = ⊥
Steady (take r ρ σ) = Unit {0}

-- what a fact of each sort says of the two pattern readings
abbrev pub Says : Sort → Reading → Reading → Type 0
Says Together ρ₁ ρ₂ = Unit {0}
Says Poised ρ₁ ρ₂ = Steady ρ₂
Says Apart ρ₁ ρ₂ = ρ₁ ≡ ρ₂ → ⊥

-- empty rule r leads to a fact, which line b shows, and so another fact holds, by this step
pub data Leads {C : Type 0} (P : Tab C) (b : ℕ) : ℕ → Fact → Fact → LineStep → Type 0 where
  slips : {f p q t : ℕ} (r : ℕ) → Skips P r p t → Leads P b r (poised f t q) (poised f p q) (First r b)
  slides : {f p q t : ℕ} (r : ℕ) → Skips P r q t → Leads P b r (together f p t) (together f p q) (Second r b)
  against : {f p t : ℕ} (r : ℕ) → Skips P r p t → Leads P b r (poised f t p) (apart f p) (First r b)
  forks : {f p t₁ t₂ : ℕ} (r r₂ : ℕ) → (r ≢ r₂) → Skips P r p t₁ → Skips P r₂ p t₂ → Leads P b r (together f t₁ t₂) (apart f p) (Both r r₂ b)
  both : {f p t : ℕ} (r : ℕ) → Skips P r p t → Leads P b r (apart f t) (apart f p) (Both r r b)

-- which facts about a node's inside and about what follows it make which fact about the run, where rules r₁ from p and r₂ from q take the node
pub data Makes (r₁ r₂ p q : ℕ) : Sort → Sort → Sort → Type 0 where
  plain : Makes r₁ r₂ p q Together Together Poised
  parted : (r₁ ≢ r₂) → p ≡ q → Makes r₁ r₂ p q Together Together Apart
  within : r₁ ≡ r₂ → Makes r₁ r₂ p q Apart Together Apart
  beyond : r₁ ≡ r₂ → Makes r₁ r₂ p q Together Apart Apart

-- a node of kind k, with fact x about its inside and fact y about what follows it, gives fact z
pub record Joins {C : Type 0} (kinds : C → ℕ → Bool) (F P : Tab C) (k r₀ r₁ r₂ : ℕ) (x y z : Fact) : Type 0 where
  pub form : Takes kinds F r₀ z.form k x.form y.form
  pub first : Takes kinds P r₁ z.first k x.first y.first
  pub second : Takes kinds P r₂ z.second k x.second y.second
  pub makes : Makes r₁ r₂ z.first z.second x.sort y.sort z.sort

-- facts that nothing can be added to
pub record Closed {C : Type 0} (kinds : C → ℕ → Bool) (F P : Tab C) (K : Fact → Type 0) : Type 0 where
  pub ends : (f p q : ℕ) → Bit F.finals f → Bit P.finals p → Bit P.finals q → K (poised f p q)
  pub rests : (f p q : ℕ) → K (poised f p q) → K (together f p q)
  pub leads : (b r : ℕ) (x y : Fact) (e : LineStep) → Leads P b r x y e → K x → K y
  pub joins : (k r₀ r₁ r₂ : ℕ) (x y z : Fact) → Joins kinds F P k r₀ r₁ r₂ x y z → K x → K y → K z

-- the table has no empty rule
abbrev pub Plain : {C : Type 0} → Tab C → Type 0
Plain T = (r q t : ℕ) → Skips T r q t → ⊥
