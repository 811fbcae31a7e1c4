-- Bytes that are a run of nodes.
use Rattle.std.specs.Prelude.{◌≡◌, ℕ, ◌+◌, ◌^◌, ◌<◌, ◌≤◌, List, ◌++◌, length, vec_items, Vec}
use Rattle.record.specs.Nodes.{Nodes, bytes_of, Fit}
use Rattle.record.specs.Numbers.{Bytes, le}
use Rattle.std.specs.declared.alloc.Global.{Global}

-- the bytes of a run of nodes whose numbers fit their fields
pub record Spelt (bytes : List ℕ) : Type 0 where
  pub nodes : Nodes
  pub fits : Fit nodes
  pub is : bytes_of nodes ≡ bytes

-- the bytes of one node
abbrev pub node_bytes : ℕ → List ℕ → List ℕ → List ℕ
node_bytes kind text inside = le 4 (4 + length text + length inside) ++ (le 2 kind ++ (le 2 (length text) ++ (text ++ inside)))

-- a node was written after a run
pub record Put (before after : Vec ℕ Global) (kind : ℕ) (text inside : List ℕ) : Type 0 where
  pub is : vec_items after ≡ vec_items before ++ node_bytes kind text inside
  pub kind_fits : kind < 2 ^ 16
  pub text_bytes : Bytes text
  pub text_fits : length text < 2 ^ 16
  pub size_fits : 4 + length text + length inside < 2 ^ 32

-- the most bytes that the notation gives one record
abbrev pub max_record : ℕ
max_record = 1048576

-- the bytes of a run of nodes, no more than one record may have
abbrev pub IsRecord : List ℕ → Type 0
IsRecord bytes = ∥ Spelt bytes ∥₁ × (length bytes ≤ max_record)
