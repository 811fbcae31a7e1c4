-- A run of nodes with their texts, and its bytes.
use Rattle.std.specs.Prelude.{◌≡◌, ℕ, ◌+◌, ◌^◌, ◌<◌, max, List, [], ◌++◌, length}
use Rattle.record.specs.Numbers.{Bytes, le}

-- empty, or a node (kind, text, inside) and what comes after it
pub data Nodes : Type 0 where
  nil : Nodes
  node : ℕ → List ℕ → Nodes → Nodes → Nodes

-- a node is its length (of all that follows in the node), kind, text size, text and inside
unfoldable pub bytes_of : Nodes → List ℕ
bytes_of nil = []
bytes_of (node k t i a) = le 4 (4 + length t + length (bytes_of i)) ++ (le 2 k ++ (le 2 (length t) ++ (t ++ (bytes_of i ++ bytes_of a))))

abbrev pub count : Nodes → ℕ
count nil = 0
count (node k t i a) = 1 + count i + count a

abbrev pub levels : Nodes → ℕ
levels nil = 0
levels (node k t i a) = max (1 + levels i) (levels a)

-- every number fits its field
abbrev pub Fit : Nodes → Type 0
Fit nil = Unit {0}
Fit (node k t i a) = (k < 2 ^ 16) × (Bytes t) × (length t < 2 ^ 16) × (4 + length t + length (bytes_of i) < 2 ^ 32) × (Fit i) × (Fit a)

abbrev pub Injective : Type 0
Injective = (m n : Nodes) → Fit m → Fit n → bytes_of m ≡ bytes_of n → m ≡ n
