-- The index of a record: an entry for each node, place 1 the last in byte order.
use Rattle.std.specs.Prelude.{◌≡◌, ℕ, zero, suc, ◌+◌, ◌<◌, ◌≤◌, min, ◌⊎◌, ◌↔◌, List, [], ◌∷◌, ◌++◌, length, take, Some, None, Option, Result, MatchResult}
use Rattle.std.specs.List.{slice_get}
use Rattle.record.specs.declared.run.Node.{Node}
use Rattle.record.specs.declared.index.Entry.{Entry}
use Rattle.record.specs.Fault.{Fault, short_list}
use Rattle.record.specs.Limits.{max_nodes, max_place}
use Rattle.record.specs.Numbers.{between}
use Rattle.record.specs.Nodes.{Nodes, nil, node, bytes_of, count}
use Rattle.record.specs.Record.{IsRecord, Refused, end_at, Due}
use Rattle.record.specs.Run.{Run, Lower, if_lower, run_at, Spans}

-- the run of the kinds alone
abbrev pub erase : Nodes → Run
erase nil = Run.nil
erase (node k t i a) = Run.node k (erase i) (erase a)

-- how many bytes one node takes
abbrev pub span : List ℕ → Nodes → ℕ
span t i = 8 + length t + length (bytes_of i)

-- the place of a run's first node, if `base` places are below the run: 0 for the empty run
abbrev pub place : ℕ → Nodes → ℕ
place base nil = 0
place base (node k t i a) = base + count (node k t i a)

-- the entries of a run that begins at offset o, with `base` entries before them
unfoldable pub entries : ℕ → ℕ → Nodes → List Entry
entries base o nil = []
entries base o (node k t i a) =
    entries base (o + span t i) a ++ (entries (base + count a) (o + 8 + length t) i
    ++ (record { node = record { kind = k; inside = place (base + count a) i; after = place base a }; offset = o; size = span t i } ∷ []))

-- an entry that names a place not lower than its own counts as empty
abbrev pub lower_only : ℕ → Option Entry → Option Node
lower_only p None = None
lower_only p (Some e) = if_lower p e.node

-- place k is entry k - 1
abbrev pub seen : List Entry → ℕ → Option Node
seen list zero = None
seen list (suc k) = lower_only (suc k) (slice_get list k)

-- a top above the list's last place or the highest place is lowered to the smaller
abbrev pub lowered : List Entry → ℕ → ℕ
lowered list top = min top (min (length list) max_place)

-- what the places of a list up to a top show
abbrev pub shown : List Entry → ℕ → ℕ → Option Node
shown list top = seen (take (lowered list top) list)

-- a list holds the index of a record: an entry for each node, and the run at the top is the record's
pub record IndexedAs (bytes : List ℕ) (list : List Entry) (n : ℕ) : Type 0 where
  pub is : IsRecord bytes
  pub room : max_nodes ≤ length list
  pub count_is : n ≡ count is.nodes
  pub filled : take n list ≡ entries 0 0 is.nodes
  pub whole : run_at (shown list n) (lowered list n) ≡ erase is.nodes

-- why there is no index
abbrev pub Unindexed : List ℕ → List Entry → Fault → Type 0
Unindexed bytes list e = ((length list < max_nodes) × (e ≡ short_list)) ⊎ ((max_nodes ≤ length list) × Refused bytes e)

-- what indexing answers, and the list before and after it
abbrev pub Indexes : List ℕ → List Entry → List Entry → Result ℕ Fault → Type 0
Indexes bytes old new r = MatchResult r (λ n. IndexedAs bytes new n) (λ e. Unindexed bytes old e)

-- the two places that an entry names
pub data Side : Type 0 where
  inside after : Side

abbrev pub named : Side → Node → ℕ
named inside n = n.inside
named after n = n.after

-- entry k tells of a node: kind and size, its bytes at its offset, its inside, and which places it names
pub record Tells (bytes : List ℕ) (list : List Entry) (k : ℕ) (e : Entry) : Type 0 where
  pub text : List ℕ
  pub inner : Nodes
  pub size_is : e.size ≡ span text inner
  pub bytes_are : between bytes e.offset (e.offset + e.size) ≡ bytes_of (node e.node.kind text inner nil)
  pub inside_is : run_at (seen list) e.node.inside ≡ erase inner
  pub inside_place : (e.node.inside ≡ 0) ⊎ (e.node.inside ≡ k)
  pub after_place : (e.node.after ≡ 0) ⊎ (e.node.after + count inner ≡ k)

pub record Indexed (n : Nodes) (list : List Entry) : Type 0 where
  pub long : length list ≡ count n
  pub whole : run_at (seen list) (length list) ≡ erase n
  pub all_seen : (k : ℕ) (e : Entry) → slice_get list k ≡ Some e → seen list (suc k) ≡ Some e.node
  pub tells : (k : ℕ) (e : Entry) → slice_get list k ≡ Some e → Tells (bytes_of n) list k e
  pub falls : (j k : ℕ) (d e : Entry) → slice_get list j ≡ Some d → slice_get list k ≡ Some e → j < k → e.offset + 8 ≤ d.offset
  pub once : (p q : ℕ) (s t : Side) (m l : Node) → seen list p ≡ Some m → seen list q ≡ Some l
      → 0 < named s m → named s m ≡ named t l → (p ≡ q) × (s ≡ t)

pub record IndexHolds : Type 0 where
  pub lower : (list : List Entry) → Lower (seen list)
  pub indexed : (n : Nodes) → Indexed n (entries 0 0 n)
  -- a filled index spans its places from the top down
  pub spans : (bytes : List ℕ) (list : List Entry) (n : ℕ) → IndexedAs bytes list n → Spans (shown list n) 0 (lowered list n) (lowered list n)

-- the list has an entry for a node at this offset, with so many nodes before it
pub record Listed (bytes : List ℕ) (list : List Entry) (o before : ℕ) : Type 0 where
  pub k : ℕ
  pub entry : Entry
  pub at : slice_get list k ≡ Some entry
  pub offset_is : entry.offset ≡ o
  pub ends : o + entry.size ≡ end_at bytes o
  pub before_is : k + 1 + before ≡ length list

-- in a record, a node is due exactly where an entry says so
abbrev pub Offsets : Type 0
Offsets = (bytes : List ℕ) (r : IsRecord bytes) (o before : ℕ) → ((end level : ℕ) × Due bytes o end level before) ↔ Listed bytes (entries 0 0 r.nodes) o before
