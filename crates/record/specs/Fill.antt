-- What the functions that fill in an index promise one another.
use Rattle.std.specs.Prelude.{◌≡◌, ℕ, ◌+◌, ◌≤◌, List, ◌∷◌, ◌++◌, length, take, drop}
use Rattle.record.specs.declared.index.Entry.{Entry}
use Rattle.record.specs.declared.parse.Passed.{Passed}
use Rattle.record.specs.Limits.{max_bytes}
use Rattle.record.specs.Numbers.{between}
use Rattle.record.specs.Nodes.{Nodes, bytes_of, count, Fit}
use Rattle.record.specs.Index.{span, place, entries}

-- the bytes from one offset to another are those of a run
pub record Spelt (bytes : List ℕ) (from to : ℕ) (n : Nodes) : Type 0 where
  pub fits : Fit n
  pub spelt : between bytes from to ≡ bytes_of n

-- a run stands here, with room for its nodes at the places up to `top`
pub record Fillable (bytes : List ℕ) (from to top room : ℕ) : Type 0 where
  pub short : length bytes ≤ max_bytes
  pub up : from ≤ to
  pub fits : to ≤ length bytes
  pub nodes : Nodes
  pub spelt : Spelt bytes from to nodes
  pub base : ℕ
  pub top_is : base + count nodes ≡ top
  pub top_fits : top ≤ room

-- the entries of a run stand at the places above `base` up to `top`, and all others are as they were
pub record Filled (old new : List Entry) (base from : ℕ) (n : Nodes) (top r : ℕ) : Type 0 where
  pub left_is : r ≡ base
  pub list_is : new ≡ take base old ++ (entries base from n ++ drop top old)

abbrev pub entry_of : ℕ → ℕ → ℕ → List ℕ → Nodes → Nodes → Entry
entry_of base o k t i a = record { node = record { kind = k; inside = place (base + count a) i; after = place base a }; offset = o; size = span t i }

-- the entries of a node and its inside stand, and those of what comes after it do not yet
pub record NodeFilled (old new : List Entry) (base o k : ℕ) (t : List ℕ) (i a : Nodes) (top : ℕ) (p : Passed) : Type 0 where
  pub next_is : p.next ≡ o + span t i
  pub left_is : p.count ≡ base + count a
  pub list_is : new ≡ take (base + count a) old ++ (entries (base + count a) (o + 8 + length t) i ++ (entry_of base o k t i a ∷ drop top old))
