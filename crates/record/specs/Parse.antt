-- What the functions that parse bytes promise one another.
use Rattle.std.specs.Prelude.{◌≡◌, ℕ, ◌+◌, ◌<◌, ◌≤◌, List, length}
use Rattle.record.specs.declared.parse.Head.{Head}
use Rattle.record.specs.declared.parse.Passed.{Passed}
use Rattle.record.specs.declared.parse.Rest.{Rest}
use Rattle.record.specs.Limits.{max_bytes, max_nodes, max_levels}
use Rattle.record.specs.Numbers.{Bytes, value, between}
use Rattle.record.specs.Nodes.{Nodes, count}
use Rattle.record.specs.Record.{inside_at, end_at, Sound, Holds, Due, IsRecord}

-- what is said of a rest of a run, by its bytes, offset, end, level and number of nodes before
abbrev pub at : {R : Type 1} → (List ℕ → ℕ → ℕ → ℕ → ℕ → R) → Rest → R
at P r = P r.bytes.now r.at r.end r.level r.before

abbrev pub kind_at : List ℕ → ℕ → ℕ
kind_at bytes o = value (between bytes (o + 4) (o + 6))

-- the head of a node at an offset, sound or not
pub record Headed (bytes : List ℕ) (o : ℕ) (h : Head) : Type 0 where
  pub kind_is : h.kind ≡ kind_at bytes o
  pub inside_is : h.inside ≡ inside_at bytes o
  pub end_is : h.end ≡ end_at bytes o

-- the head of a sound node
pub record Opened (bytes : List ℕ) (o end level before : ℕ) (h : Head) : Type 0 where
  pub sound : Sound bytes o end level before
  pub headed : Headed bytes o h

-- a run may be parsed here
pub record Ready (bytes : List ℕ) (o end level before : ℕ) : Type 0 where
  pub all : Bytes bytes
  pub short : length bytes ≤ max_bytes
  pub up : o ≤ end
  pub fits : end ≤ length bytes
  pub level_fits : level ≤ max_levels + 1
  pub number_fits : before ≤ max_nodes
  pub due : o < end → Due bytes o end level before

-- a run was parsed, and this many nodes are now behind
pub record RunParsed (bytes : List ℕ) (o end level before n : ℕ) : Type 0 where
  pub nodes : Nodes
  pub holds : Holds bytes o end level before nodes
  pub count_is : n ≡ before + count nodes

-- a node was parsed
pub record NodeParsed (bytes : List ℕ) (o end level before : ℕ) (p : Passed) : Type 0 where
  pub sound : Sound bytes o end level before
  pub inner : Nodes
  pub holds : Holds bytes (inside_at bytes o) (end_at bytes o) (level + 1) (before + 1) inner
  pub next_is : p.next ≡ end_at bytes o
  pub count_is : p.count ≡ before + 1 + count inner

-- the bytes are a record of n nodes
pub record Recorded (bytes : List ℕ) (n : ℕ) : Type 0 where
  pub is : IsRecord bytes
  pub count_is : n ≡ count is.nodes
