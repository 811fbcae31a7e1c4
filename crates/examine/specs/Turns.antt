-- Which pairs of lines a turn of the search joins by a node, and what it leaves known; no promise to a caller of the crate.
use Rattle.std.specs.Prelude.{◌≡◌, ℕ, Bool, true, ◌&&◌, ◌==◌, ◌≢◌, nat_lt}
use Rattle.table.specs.declared.rule.Rule.{Rule}
use Rattle.table.specs.declared.rule.Step.TheVariants.{Empty, Node}
use Rattle.table.specs.Class.{Kind}
use Rattle.table.specs.Reading.{Takes}
use Rattle.examine.specs.declared.fact.Sort.{Sort}
use Rattle.examine.specs.declared.fact.Fact.{Fact}
use Rattle.examine.specs.declared.turn.Arm.{Arm}
use Rattle.examine.specs.declared.turn.Skip.{Skip}
use Rattle.examine.specs.declared.turn.Trio.{Trio}
use Rattle.examine.specs.declared.turn.Side.{Side}
use Rattle.examine.specs.declared.turn.Side.TheVariants.{Inside, After}
use Rattle.examine.specs.declared.turn.Turn.{Turn}
use Rattle.examine.specs.Facts.{about, Joins}
use Rattle.examine.specs.Search.{Setting, State, line_of, Known}

abbrev pub state_on : Side → ℕ → ℕ → ℕ
state_on Inside s t = s
state_on After s t = t

-- the line of the turn on its side, and a line below the bound on the other
abbrev pub paired : Side → ℕ → ℕ → ℕ → ℕ → Bool
paired Inside l b i j = i == l && nat_lt j b
paired After l b i j = j == l && nat_lt i b

abbrev pub pairs : Turn → ℕ → ℕ → Bool
pairs t i j = paired t.side t.line t.bound i j

-- the facts of these sorts about the run on a side of a node, about its inside, about what follows it, and about the whole
abbrev pub side_fact : Side → Sort → Trio → Fact
side_fact d x u = about x (state_on d u.form.inside u.form.to) (state_on d u.first.inside u.first.to) (state_on d u.second.inside u.second.to)

abbrev pub inside_fact : Sort → Trio → Fact
inside_fact x u = side_fact Inside x u

abbrev pub after_fact : Sort → Trio → Fact
after_fact x u = side_fact After x u

abbrev pub whole_fact : Sort → Trio → Fact
whole_fact x u = about x u.form.from u.first.from u.second.from

-- rule i is empty, and this has its number and its states
pub record SkipOf {C : Type 0} (i : ℕ) (x : Rule C) (s : Skip) : Type 0 where
  pub step : x.step ≡ Empty
  pub number : s.rule ≡ i
  pub from : s.from ≡ x.from
  pub to : s.to ≡ x.to

-- rule i takes a node of the class and has state q on this side, and the arm has its number and its states
pub record Armed {C : Type 0} (d : Side) (i : ℕ) (x : Rule C) (q : ℕ) (class : C) (a : Arm) : Type 0 where
  pub marks : ℕ
  pub step : x.step ≡ Node class a.inside marks
  pub number : a.rule ≡ i
  pub from : a.from ≡ x.from
  pub to : a.to ≡ x.to
  pub state : state_on d a.inside a.to ≡ q

-- the rule takes no node, or has another state on this side
abbrev pub Unarmed : {C : Type 0} → Side → Rule C → ℕ → Type 0
Unarmed {C} d x q = (class : C) (s m : ℕ) → x.step ≡ Node class s m → state_on d s x.to ≢ q

-- the three rules take a node of the kind
pub record Taken {C : Type 0} (G : Setting C) (u : Trio) : Type 0 where
  pub form : Takes G.kinds G.form u.form.rule u.form.from u.kind u.form.inside u.form.to
  pub first : Takes G.kinds G.pattern u.first.rule u.first.from u.kind u.first.inside u.first.to
  pub second : Takes G.kinds G.pattern u.second.rule u.second.from u.kind u.second.inside u.second.to

-- a class of the kinds that a form rule and a pattern rule both take
pub record Met {C : Type 0} (G : Setting C) (m : C) (x y : Arm) : Type 0 where
  pub takes : (k : ℕ) → Kind k → G.kinds m k ≡ true
      → Takes G.kinds G.form x.rule x.from k x.inside x.to × Takes G.kinds G.pattern y.rule y.from k y.inside y.to
  pub only : (k f s t p u v : ℕ) → Takes G.kinds G.form x.rule f k s t → Takes G.kinds G.pattern y.rule p k u v → G.kinds m k ≡ true

-- a fact that two known facts make, whose lines the turn pairs, is known
abbrev pub Made : {C : Type 0} → Setting C → State → State → Turn → Fact → Fact → Fact → Type 0
Made G s t w x y z = Known G s x → Known G s y → pairs w (line_of G s x) (line_of G s y) ≡ true → Known G t z

-- what three rules make of facts whose lines the turn pairs is known
abbrev pub Crossed : {C : Type 0} → Setting C → State → State → Turn → ℕ → ℕ → ℕ → Type 0
Crossed G s t w r₀ r₁ r₂ =
    (k : ℕ) (x y z : Fact) → Joins G.kinds G.form G.pattern k r₀ r₁ r₂ x y z → Made G s t w x y z
