-- The readings of a run under a table.
use Rattle.std.specs.Prelude.{◌≡◌, ℕ, zero, suc, Bool, true}
use Rattle.record.specs.Run.{Run, nil, node}
use Rattle.table.specs.declared.rule.Step.TheVariants.{Empty, Node}
use Rattle.table.specs.Class.{Kind}
use Rattle.table.specs.Sets.{Bit}
use Rattle.table.specs.Table.{Tab, At}

-- a reading: stop, an empty rule and a reading, or a node rule with a reading of the node's inside and one of what follows; rules go by number
pub data Reading : Type 0 where
  stop : Reading
  skip : ℕ → Reading → Reading
  take : ℕ → Reading → Reading → Reading
  deriving Discrete as same_reading

-- rule r is an empty rule from q to t
abbrev pub Skips : {C : Type 0} → Tab C → ℕ → ℕ → ℕ → Type 0
Skips T r q t = At T.rules r (record { from = q; to = t; step = Empty })

-- rule r takes a node of kind k from q, with s for its inside, and goes on to t
pub record Takes {C : Type 0} (kinds : C → ℕ → Bool) (T : Tab C) (r q k s t : ℕ) : Type 0 where
  pub class : C
  pub marks : ℕ
  pub rule : At T.rules r (record { from = q; to = t; step = Node class s marks })
  pub kind : Kind k
  pub has : kinds class k ≡ true

module _ {C : Type 0} (kinds : C → ℕ → Bool) (T : Tab C) where
  -- a reading of a run from state q
  abbrev pub Reads : ℕ → Run → Reading → Type 0
  Reads q nil stop = Bit T.finals q
  Reads q (node k i a) stop = ⊥
  Reads q w (skip r ρ) = (t : ℕ) × (Skips T r q t) × (Reads t w ρ)
  Reads q nil (take r ρ σ) = ⊥
  Reads q (node k i a) (take r ρ σ) = (s t : ℕ) × (Takes kinds T r q k s t) × (Reads s i ρ) × (Reads t a σ)

-- a whole reading of a run: a start state and a reading from it
pub record Whole {C : Type 0} (kinds : C → ℕ → Bool) (T : Tab C) (w : Run) : Type 0 where
  pub state : ℕ
  pub reading : Reading
  pub starts : Bit T.starts state
  pub reads : Reads kinds T state w reading

-- two whole readings are the same if start and reading are
abbrev pub Same : {C : Type 0} {kinds : C → ℕ → Bool} {T : Tab C} {w : Run} → Whole kinds T w → Whole kinds T w → Type 0
Same x y = (x.state ≡ y.state) × (x.reading ≡ y.reading)

-- a run fits a form if it has a reading under it
abbrev pub Fits : {C : Type 0} → (C → ℕ → Bool) → Tab C → Run → Type 0
Fits kinds T w = Whole kinds T w

-- one whole reading, and every other is the same
pub record Single {C : Type 0} (kinds : C → ℕ → Bool) (T : Tab C) (w : Run) : Type 0 where
  pub whole : Whole kinds T w
  pub alone : (x : Whole kinds T w) → Same whole x

-- two whole readings that differ
pub record Two {C : Type 0} (kinds : C → ℕ → Bool) (T : Tab C) (w : Run) : Type 0 where
  pub one : Whole kinds T w
  pub other : Whole kinds T w
  pub differ : Same one other → ⊥

-- a run has no reading, one and no other, or two that differ
abbrev pub Counts : {C : Type 0} → (C → ℕ → Bool) → Tab C → Run → ℕ → Type 0
Counts kinds T w zero = Whole kinds T w → ⊥
Counts kinds T w (suc zero) = Single kinds T w
Counts kinds T w (suc (suc zero)) = Two kinds T w
Counts kinds T w (suc (suc (suc n))) = ⊥

-- some run fits the form F and has two readings under the pattern P that differ
abbrev pub Twofold : {C : Type 0} → (C → ℕ → Bool) → Tab C → Tab C → Type 0
Twofold kinds F P = (w : Run) × (Fits kinds F w) × (Two kinds P w)
