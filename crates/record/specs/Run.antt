-- Runs of nodes, and the run that begins at a place of a table.
use Rattle.std.specs.Prelude.{◌≡◌, ℕ, zero, suc, ◌+◌, ◌<◌, ◌≤◌, ◌&&◌, Some, None, Option, cond, nat_lt}
use Rattle.record.specs.declared.run.Node.{Node}
use Rattle.record.specs.Limits.{max_place}

-- empty, or a node (kind, inside) and what follows it
pub data Run : Type 0 where
  nil : Run
  node : ℕ → Run → Run → Run

-- a node names only places below its own
abbrev pub Lower : (ℕ → Option Node) → Type 0
Lower seen = (p : ℕ) (n : Node) → seen p ≡ Some n → (n.inside < p) × (n.after < p)

-- a node at a place, or nothing if it names a place not lower than that
abbrev pub if_lower : ℕ → Node → Option Node
if_lower p n = cond (nat_lt n.inside p && nat_lt n.after p) (Some n) None

-- what every run interface owes of its top place and of what its places show; so nothing is seen at place 0
pub record Places (top : ℕ) (seen : ℕ → Option Node) : Type 0 where
  pub few : top ≤ max_place
  pub lower : Lower seen
  pub ends : (p : ℕ) → top < p → seen p ≡ None

-- the run that begins at a place, with at most `fuel` steps down
abbrev pub spelled : (ℕ → Option Node) → ℕ → ℕ → Run
spelled seen zero p = nil
spelled seen (suc fuel) p =
    elim (seen p) [ None ↦ nil | Some n ↦ node n.kind (spelled seen fuel n.inside) (spelled seen fuel n.after) ]

-- a place bounds the steps down from it
abbrev pub run_at : (ℕ → Option Node) → ℕ → Run
run_at seen p = spelled seen p p

-- without the fuel: nothing seen is the empty run, and a node seen has the runs at its places
pub record Unfolds : Type 0 where
  pub at_none : (seen : ℕ → Option Node) → Lower seen → (p : ℕ) → seen p ≡ None → run_at seen p ≡ nil
  pub at_some : (seen : ℕ → Option Node) → Lower seen → (p : ℕ) (n : Node) → seen p ≡ Some n
      → run_at seen p ≡ node n.kind (run_at seen n.inside) (run_at seen n.after)

-- the run at place p has its nodes at the s places above b, each named once: a node at the highest, its inside below it, and what follows below that
pub data Spans (seen : ℕ → Option Node) : ℕ → ℕ → ℕ → Type 0 where
  empty : {b : ℕ} → Spans seen b 0 0
  full : {b x y s p : ℕ} (n : Node) → s ≡ suc (x + y) → p ≡ b + s → seen p ≡ Some n → Spans seen (b + x) y n.inside → Spans seen b x n.after → Spans seen b s p
