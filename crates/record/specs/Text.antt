-- The text of the node that starts at an offset.
use Rattle.std.specs.Prelude.{◌≡◌, ℕ, ◌+◌, ◌≤◌, ◌⊎◌, List, length}
use Rattle.record.specs.declared.parse.Head.{Head}
use Rattle.record.specs.Fault.{Fault, no_node}
use Rattle.record.specs.Numbers.{between}
use Rattle.record.specs.Nodes.{Nodes, nil, node}
use Rattle.record.specs.Record.{IsRecord, Refused}
use Rattle.record.specs.Index.{span}
use Rattle.record.specs.Fill.{Spelt}

-- in a run that begins at `base`, a node with this text starts at o
abbrev pub Starts : ℕ → Nodes → ℕ → List ℕ → Type 0
Starts base nil o s = ⊥
Starts base (node k t i a) o s = ((o ≡ base) × (s ≡ t)) ⊎ (Starts (base + 8 + length t) i o s ⊎ Starts (base + span t i) a o s)

pub record Texted (bytes : List ℕ) (o : ℕ) (s : List ℕ) : Type 0 where
  pub is : IsRecord bytes
  pub starts : Starts 0 is.nodes o s

-- in a record, no node starts at o
pub record Unstarted (bytes : List ℕ) (o : ℕ) : Type 0 where
  pub is : IsRecord bytes
  pub none : (s : List ℕ) → Starts 0 is.nodes o s → ⊥

abbrev pub Untexted : List ℕ → ℕ → Fault → Type 0
Untexted bytes o e = Refused bytes e ⊎ (Unstarted bytes o × (e ≡ no_node))

-- the head of the node that starts at o
pub record Found (bytes : List ℕ) (o : ℕ) (h : Head) : Type 0 where
  pub from : o + 8 ≤ h.inside
  pub to : h.inside ≤ length bytes
  pub texted : Texted bytes o (between bytes (o + 8) h.inside)

-- a node at o is one of the run from `at` to `end`
pub record Seeking (bytes : List ℕ) (o at end : ℕ) : Type 0 where
  pub is : IsRecord bytes
  pub nodes : Nodes
  pub spelt : Spelt bytes at end nodes
  pub up : at ≤ end
  pub fits : end ≤ length bytes
  pub there : (s : List ℕ) → Starts at nodes o s → Starts 0 is.nodes o s
  pub back : (s : List ℕ) → Starts 0 is.nodes o s → Starts at nodes o s
