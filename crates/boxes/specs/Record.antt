-- The readings of a record's bytes, and the nodes that they mark.
use Rattle.std.specs.Prelude.{◌≡◌, ℕ, ◌+◌, Bool, List, [], ◌++◌, length}
use Rattle.record.specs.Nodes.{Nodes, nil, node}
use Rattle.record.specs.Record.{IsRecord}
use Rattle.record.specs.Index.{erase, span}
use Rattle.table.specs.declared.rule.Rule.{Rule}
use Rattle.table.specs.Table.{Tab}
use Rattle.table.specs.Reading.{Reading, stop, skip, take, Whole}
use Rattle.table.specs.Marks.{carries, put}
use Rattle.boxes.specs.declared.shelf.Spot.{Spot}

-- one reading of a record's bytes
pub record Read {C : Type 0} (kinds : C → ℕ → Bool) (T : Tab C) (bytes : List ℕ) : Type 0 where
  pub is : IsRecord bytes
  pub whole : Whole kinds T (erase is.nodes)

module _ {C : Type 0} {kinds : C → ℕ → Bool} {T : Tab C} {bytes : List ℕ} where
  abbrev pub Alike : Read kinds T bytes → Read kinds T bytes → Type 0
  Alike x y = (x.whole.state ≡ y.whole.state) × (x.whole.reading ≡ y.whole.reading)

-- two readings of the same bytes that differ
abbrev pub Twice : {C : Type 0} → (C → ℕ → Bool) → Tab C → List ℕ → Type 0
Twice kinds T bytes = (x y : Read kinds T bytes) × (Alike x y → ⊥)

-- the nodes of a run that begins at offset o to which a reading gives mark m, in record order: a node, then its inside, then what follows
abbrev pub spotted : {C : Type 0} → List (Rule C) → ℕ → ℕ → Nodes → Reading → List Spot
spotted rules m o n stop = []
spotted rules m o n (skip r ρ) = spotted rules m o n ρ
spotted rules m o nil (take r ρ σ) = []
spotted rules m o (node k t i a) (take r ρ σ) =
    put (carries rules r m) (record { offset = o; size = span t i }) (spotted rules m (o + 8 + length t) i ρ ++ spotted rules m (o + span t i) a σ)

-- the nodes to which a reading gives a mark
abbrev pub spots : {C : Type 0} {kinds : C → ℕ → Bool} {T : Tab C} {bytes : List ℕ} → ℕ → Read kinds T bytes → List Spot
spots {T = T} m x = spotted T.rules m 0 x.is.nodes x.whole.reading
