-- Which states have a reading of a run, and which have two that differ, as sets of states tell it.
use Rattle.std.specs.Prelude.{◌≡◌, ℕ, ◌<◌, Bool, true, false, ◌&&◌, ◌||◌, ◌⊎◌, ◌↔◌, Some, None, Option, ◌==◌, ◌≢◌}
use Rattle.record.specs.Run.{Run, nil, node}
use Rattle.table.specs.declared.rule.Rule.{Rule}
use Rattle.table.specs.declared.rule.Step.{Step}
use Rattle.table.specs.declared.rule.Step.TheVariants.{Empty, Node}
use Rattle.table.specs.declared.counted.Counted.{Counted}
use Rattle.table.specs.Limits.{pattern_states}
use Rattle.table.specs.Sets.{bit, Bit}
use Rattle.table.specs.Table.{Tab, At}
use Rattle.table.specs.Check.{Names}
use Rattle.table.specs.Reading.{Reading, Skips, Takes, Reads}

-- the states with a reading, and those with two that differ
pub record Sets : Type 0 where
  pub some : ℕ → Bool
  pub many : ℕ → Bool

abbrev pub sets : Counted → Sets
sets x = record { some = bit x.some; many = bit x.many }

-- every state that a rule names fits a set
abbrev pub Bounded : {C : Type 0} → Tab C → Type 0
Bounded {C} T = (i : ℕ) (x : Rule C) → At T.rules i x → (q : ℕ) → Names x q → q < pattern_states

-- the first step of a reading
pub data First : Type 0 where
  ends : First
  slips : ℕ → First
  enters : ℕ → First

-- two readings from one state that differ
pub record Twice {C : Type 0} (kinds : C → ℕ → Bool) (T : Tab C) (q : ℕ) (w : Run) : Type 0 where
  pub one : Reading
  pub other : Reading
  pub one_reads : Reads kinds T q w one
  pub other_reads : Reads kinds T q w other
  pub differ : one ≡ other → ⊥

-- the kind of a run's first node
abbrev pub kind_of : Run → Option ℕ
kind_of nil = None
kind_of (node k v w) = Some k

module _ {C : Type 0} (kinds : C → ℕ → Bool) (T : Tab C) where
  -- a reading from one state
  abbrev pub Once : ℕ → Run → Type 0
  Once q w = (ρ : Reading) × (Reads kinds T q w ρ)

  -- a first step that some reading from q takes, by the sets here, inside and after
  abbrev pub Opens : Option ℕ → Sets → Sets → Sets → ℕ → First → Type 0
  Opens None h i a q ends = Bit T.finals q
  Opens (Some k) h i a q ends = ⊥
  Opens o h i a q (slips r) = (t : ℕ) × (Skips T r q t) × (h.some t ≡ true)
  Opens None h i a q (enters r) = ⊥
  Opens (Some k) h i a q (enters r) = (s t : ℕ) × (Takes kinds T r q k s t) × (i.some s ≡ true) × (a.some t ≡ true)

  -- a first step that two readings from q take
  abbrev pub Forks : Option ℕ → Sets → Sets → Sets → ℕ → First → Type 0
  Forks o h i a q ends = ⊥
  Forks o h i a q (slips r) = (t : ℕ) × (Skips T r q t) × (h.some t ≡ true) × (h.many t ≡ true)
  Forks None h i a q (enters r) = ⊥
  Forks (Some k) h i a q (enters r) =
      (s t : ℕ) × (Takes kinds T r q k s t) × (i.some s ≡ true) × (a.some t ≡ true) × ((i.many s ≡ true) ⊎ (a.many t ≡ true))

-- the sets say just what is so
pub record Exact {C : Type 0} (kinds : C → ℕ → Bool) (T : Tab C) (w : Run) (S : Sets) : Type 0 where
  pub somes : (q : ℕ) → (S.some q ≡ true) ↔ Once kinds T q w
  pub manys : (q : ℕ) → (S.many q ≡ true) ↔ Twice kinds T q w

-- so it is at the node's inside, and at what follows it
abbrev pub Below : {C : Type 0} → (C → ℕ → Bool) → Tab C → Run → Sets → Sets → Type 0
Below kinds T nil i a = Unit {0}
Below kinds T (node k v w) i a = (Exact kinds T v i) × (Exact kinds T w a)

-- one first step among those of U, or a fork, or two first steps that differ
abbrev pub Any : (First → Type 0) → (First → Type 0) → Type 0
Any U O = (x : First) × (U x) × (O x)

abbrev pub Pair : (First → Type 0) → (First → Type 0) → (First → Type 0) → Type 0
Pair U O F = (Any U F) ⊎ ((x y : First) × (x ≢ y) × (U x) × (U y) × (O x) × (O y))

-- all that the first steps of U tell of a run that begins with kind o, and no more
pub record Told {C : Type 0} (kinds : C → ℕ → Bool) (T : Tab C) (U : First → Type 0) (o : Option ℕ) (h i a g : Sets) : Type 0 where
  pub somes : (q : ℕ) → (g.some q ≡ true) ↔ Any U (Opens kinds T o h i a q)
  pub manys : (q : ℕ) → (g.many q ≡ true) ↔ Pair U (Opens kinds T o h i a q) (Forks kinds T o h i a q)

-- a first step that is not by an empty rule
abbrev pub Grounded : First → Type 0
Grounded ends = Unit {0}
Grounded (slips r) = ⊥
Grounded (enters r) = Unit {0}

abbrev pub Every : First → Type 0
Every x = Unit {0}

-- what node rules and final states give; the sets here do not matter to it
abbrev pub Base : {C : Type 0} → (C → ℕ → Bool) → Tab C → Option ℕ → Sets → Sets → Sets → Type 0
Base kinds T o i a g = (h : Sets) → Told kinds T Grounded o h i a g

-- what all rules give of the sets here
abbrev pub Round : {C : Type 0} → (C → ℕ → Bool) → Tab C → Option ℕ → Sets → Sets → Sets → Sets → Type 0
Round kinds T o h i a g = Told kinds T Every o h i a g

-- sets that are exact at every run of this kind whose inside and rest have those sets
abbrev pub Settling : {C : Type 0} → (C → ℕ → Bool) → Tab C → Option ℕ → Sets → Sets → Sets → Type 0
Settling kinds T o i a g = (w : Run) → kind_of w ≡ o → Below kinds T w i a → Exact kinds T w g

-- a node rule to t that takes a node of kind k, by the states inside and after
abbrev pub takes_step : {C : Type 0} → (C → ℕ → Bool) → ℕ → (ℕ → Bool) → (ℕ → Bool) → ℕ → Step C → Bool
takes_step kinds k i a t Empty = false
takes_step kinds k i a t (Node c s m) = i s && (a t && kinds c k)

-- a node rule to t with its inside state in i or t in a
abbrev pub touches_step : {C : Type 0} → (ℕ → Bool) → (ℕ → Bool) → ℕ → Step C → Bool
touches_step i a t Empty = false
touches_step i a t (Node c s m) = i s || a t

-- an empty rule to a state of h
abbrev pub slips_step : {C : Type 0} → (ℕ → Bool) → ℕ → Step C → Bool
slips_step h t Empty = h t
slips_step h t (Node c s m) = false

-- one more first step of state q, which two readings take if `twice`
pub record Grows (q : ℕ) (twice : Bool) (before after : Sets) : Type 0 where
  pub somes : (p : ℕ) → after.some p ≡ (before.some p || q == p)
  pub manys : (p : ℕ) → after.many p ≡ (before.many p || ((twice || before.some q) && q == p))

-- some node rule takes a node of this kind from q
abbrev pub Leads : {C : Type 0} → (C → ℕ → Bool) → Tab C → ℕ → (ℕ → Bool) → (ℕ → Bool) → ℕ → Type 0
Leads kinds T k i a q = (r s t : ℕ) × (Takes kinds T r q k s t) × (i s ≡ true) × (a t ≡ true)
