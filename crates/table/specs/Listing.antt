-- The states that readings pass through, and the rules that they use.
use Rattle.std.specs.Prelude.{◌≡◌, ℕ, Bool, true, false, ◌||◌, ◌↔◌, List, Some, Option, ◌==◌, slice_index, slice_set}
use Rattle.record.specs.declared.run.Node.{Node}
use Rattle.table.specs.declared.rule.Rule.{Rule}
use Rattle.table.specs.declared.rule.Step.{Step}
use Rattle.table.specs.declared.rule.Step.TheVariants.{Empty, Node as NodeStep}
use Rattle.table.specs.declared.listing.Used.{Used}
use Rattle.table.specs.Sets.{bit, Bit}
use Rattle.table.specs.Table.{Tab}
use Rattle.table.specs.Reading.{Skips, Takes}
use Rattle.table.specs.Scratch.{number_at}
use Rattle.table.specs.Marks.{gives, carries}

-- the states of `some` to which empty rules lead from those that come in
pub data Alive {C : Type 0} (T : Tab C) (some enter : ℕ → Bool) : ℕ → Type 0 where
  comes : {q : ℕ} → enter q ≡ true → some q ≡ true → Alive T some enter q
  slides : {q t : ℕ} (r : ℕ) → Alive T some enter q → Skips T r q t → some t ≡ true → Alive T some enter t

-- an empty rule leads from a live state to t, which has a reading
abbrev pub Slides : {C : Type 0} → Tab C → (ℕ → Bool) → (ℕ → Bool) → ℕ → Type 0
Slides T some live t = (r q : ℕ) × (Skips T r q t) × (live q ≡ true) × (some t ≡ true)

-- node rule r is used at a node of kind k: it takes the node from a live state, and leads on, inside and after
abbrev pub Uses : {C : Type 0} → (C → ℕ → Bool) → Tab C → ℕ → (ℕ → Bool) → (ℕ → Bool) → (ℕ → Bool) → ℕ → ℕ → ℕ → Type 0
Uses kinds T k live i a r s t = (q : ℕ) × (Takes kinds T r q k s t) × (live q ≡ true) × (i s ≡ true) × (a t ≡ true)

-- all that is used: the states inside and after, and the marks
pub record Usage {C : Type 0} (kinds : C → ℕ → Bool) (T : Tab C) (k : ℕ) (live i a : ℕ → Bool) (u : Used) : Type 0 where
  pub insides : (s : ℕ) → Bit u.inside s ↔ ((r t : ℕ) × (Uses kinds T k live i a r s t))
  pub afters : (t : ℕ) → Bit u.after t ↔ ((r s : ℕ) × (Uses kinds T k live i a r s t))
  pub marked : (m : ℕ) → Bit u.marks m ↔ ((r s t : ℕ) × (Uses kinds T k live i a r s t) × (carries T.rules r m ≡ true))

-- a node rule to t adds to the states inside and to those after
abbrev pub adds_inside : {C : Type 0} → Step C → ℕ → Bool
adds_inside Empty q = false
adds_inside (NodeStep c s b) q = s == q

abbrev pub adds_after : {C : Type 0} → ℕ → Step C → ℕ → Bool
adds_after t Empty q = false
adds_after t (NodeStep c s b) q = t == q

pub record Adds {C : Type 0} (x : Rule C) (before after : Used) : Type 0 where
  pub insides : (q : ℕ) → bit after.inside q ≡ (bit before.inside q || adds_inside x.step q)
  pub afters : (q : ℕ) → bit after.after q ≡ (bit before.after q || adds_after x.to x.step q)
  pub marked : (m : ℕ) → bit after.marks m ≡ (bit before.marks m || gives x.step m)

-- the first and the third set of a place
abbrev pub some_of : List ℕ → ℕ → ℕ → Bool
some_of xs p = bit (slice_index xs (number_at p 0))

abbrev pub enter_of : List ℕ → ℕ → ℕ → Bool
enter_of xs p = bit (slice_index xs (number_at p 2))

-- one place is listed: a node there passes states on to its inside and to what follows, and has its marks noted
pub record Passes {C : Type 0} (kinds : C → ℕ → Bool) (T : Tab C) (p : ℕ) (n : Node) (xs ys : List ℕ) : Type 0 where
  pub live : ℕ
  pub used : Used
  pub lives : (q : ℕ) → Bit live q ↔ Alive T (some_of xs p) (enter_of xs p) q
  pub uses : Usage kinds T n.kind (bit live) (some_of xs n.inside) (some_of xs n.after) used
  pub is : ys ≡ slice_set (slice_set (slice_set xs (number_at n.inside 2) used.inside) (number_at n.after 2) used.after) (number_at p 1) used.marks

abbrev pub Passed : {C : Type 0} → (C → ℕ → Bool) → Tab C → (ℕ → Option Node) → ℕ → List ℕ → List ℕ → Type 0
Passed kinds T seen p xs ys = (n : Node) → seen p ≡ Some n → Passes kinds T p n xs ys
