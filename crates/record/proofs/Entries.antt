-- The entries of a run, node by node.
use Rattle.std.proofs.Common.{◌≡◌, ℕ, zero, suc, ◌+◌, ◌<◌, ◌≤◌, ◌⊎◌, List, [], ◌∷◌, ◌++◌, length, Some, sym, refl, ap, ◌∙◌, ap₂, inl, inr, arith, length-append}
use Rattle.std.specs.List.{slice_get}
use Rattle.record.specs.declared.index.Entry.{Entry}
use Rattle.record.specs.Nodes.{Nodes, nil, node, bytes_of, count}
use Rattle.record.specs.Run.{Run, run_at, Spans, empty, full}
use Rattle.record.specs.Index.{erase, span, place, entries, seen, Side, inside, after, named}
use Rattle.record.proofs.Injective.{node_length}
use Rattle.record.proofs.Places.{run_some}
use Rattle.record.proofs.Nth.{nth_left, nth_right, nth_split}
use Rattle.record.proofs.Looks.{seen_lower}
use Rattle.record.proofs.Seen.{seen_shown}

-- a node's own entry
abbrev pub own : ℕ → ℕ → ℕ → List ℕ → Nodes → Nodes → Entry
own base o k t i a = record { node = record { kind = k; inside = place (base + count a) i; after = place base a }; offset = o; size = span t i }

pub entries_length : (n : Nodes) (base o : ℕ) → length (entries base o n) ≡ count n
unfolding entries
entries_length nil base o = refl
entries_length (node k t i a) base o =
    let x = entries_length a base (o + span t i) in
    let y = entries_length i (base + count a) (o + 8 + length t) in
    simp (length-append) (omega arith)

-- a list has the entries of a run, each at its place
abbrev pub Stands : List Entry → ℕ → ℕ → Nodes → Type 0
Stands list base o nil = Unit {0}
Stands list base o (node k t i a) =
    (Stands list base (o + span t i) a) × (Stands list (base + count a) (o + 8 + length t) i) × (slice_get list (base + count a + count i) ≡ Some (own base o k t i a))

pub stands : (list : List Entry) (n : Nodes) (base o : ℕ) → ((j : ℕ) (e : Entry) → slice_get (entries base o n) j ≡ Some e → slice_get list (base + j) ≡ Some e) → Stands list base o n
unfolding entries
stands list nil base o h = tt
stands list (node k t i a) base o h =
    let ea : List Entry = entries base (o + span t i) a in
    let ei : List Entry = entries (base + count a) (o + 8 + length t) i in
    let x : Entry = own base o k t i a in
    let la : length ea ≡ count a = entries_length a base (o + span t i) in
    let li : length ei ≡ count i = entries_length i (base + count a) (o + 8 + length t) in (
      stands list a base (o + span t i) (λ j e g. h j e (nth_left ea (ei ++ (x ∷ [])) j e g)),
      stands list i (base + count a) (o + 8 + length t)
          (λ j e g.
          let s : base + (length ea + j) ≡ base + count a + j = omega arith in
          rw s at (h (length ea + j) e (nth_right ea (ei ++ (x ∷ [])) j ∙ nth_left ei (x ∷ []) j e g))),
      (let s : base + (length ea + (length ei + 0)) ≡ base + count a + count i = omega arith in
          rw s at (h (length ea + (length ei + 0)) x (nth_right ea (ei ++ (x ∷ [])) (length ei + 0) ∙ nth_right ei (x ∷ []) 0))),
    )

-- the place of a run is 0, or that of its first node
pub place_cases : (base : ℕ) (n : Nodes) → (place base n ≡ 0) ⊎ ((place base n ≡ base + count n) × (0 < count n))
place_cases base nil = inl refl
place_cases base (node k t i a) = inr (refl, omega arith)

pub spells : (list : List Entry) (n : Nodes) (base o : ℕ) → Stands list base o n → run_at (seen list) (place base n) ≡ erase n
spells list nil base o s = refl
spells list (node k t i a) base o s =
    let p : ℕ = base + count a + count i in
    let x : Entry = own base o k t i a in
    let e : base + (1 + count i + count a) ≡ suc p = omega arith in
    let ci = place_cases (base + count a) i in
    let ca = place_cases base a in
    ap (run_at (seen list)) e
    ∙ (run_some (seen list) (seen_lower list) (suc p) x.node (seen_shown list p x s.2 (omega arith) (omega arith))
    ∙ ap₂ (Run.node k) (spells list i (base + count a) (o + 8 + length t) s.1) (spells list a base (o + span t i) s.0))

-- the entries of a run span the places that it takes
pub spans : (list : List Entry) (n : Nodes) (base o : ℕ) → Stands list base o n → Spans (seen list) base (count n) (place base n)
spans list nil base o s = empty
spans list (node k t i a) base o s =
    let p : ℕ = base + count a + count i in
    let x : Entry = own base o k t i a in
    let e : base + (1 + count i + count a) ≡ suc p = omega arith in
    let ci = place_cases (base + count a) i in
    let ca = place_cases base a in
    full x.node (omega arith) refl (ap (seen list) e ∙ seen_shown list p x s.2 (omega arith) (omega arith))
    (spans list i (base + count a) (o + 8 + length t) s.1) (spans list a base (o + span t i) s.0)

-- entry k of a list that has these entries is e
abbrev pub Has : ℕ → ℕ → Nodes → ℕ → Entry → Type 0
Has base o nil j e = ⊥
Has base o (node k t i a) j e =
    (Has base (o + span t i) a j e) ⊎ ((Has (base + count a) (o + 8 + length t) i j e) ⊎ ((j ≡ base + count a + count i) × (e ≡ own base o k t i a)))

pub has : (n : Nodes) (base o j : ℕ) (e : Entry) → slice_get (entries base o n) j ≡ Some e → Has base o n (base + j) e
unfolding entries
has nil base o j e h = let z : ◌≡◌ {A = ℕ} 0 1 = cc in absurd (omega arith)
has (node k t i a) base o j e h = in_after (nth_split ea (ei ++ (x ∷ [])) j e h) (has a base (o + span t i) j e) (λ m. has i (base + count a) (o + 8 + length t) m e)
  where
    ea : List Entry
    ea = entries base (o + span t i) a

    ei : List Entry
    ei = entries (base + count a) (o + 8 + length t) i

    x : Entry
    x = own base o k t i a

    la : length ea ≡ count a
    la = entries_length a base (o + span t i)

    li : length ei ≡ count i
    li = entries_length i (base + count a) (o + 8 + length t)

    last : (m : ℕ) → j ≡ length ea + (length ei + m) → slice_get (x ∷ []) m ≡ Some e → Has base o (node k t i a) (base + j) e
    last zero q g = inr (inr (omega (arith, la, li), cc))
    last (suc m) q g = let z : ◌≡◌ {A = ℕ} 0 1 = cc in absurd (omega arith)

    in_inside : (m : ℕ) → j ≡ length ea + m → (slice_get ei m ≡ Some e) ⊎ ((l : ℕ) × (m ≡ length ei + l) × (slice_get (x ∷ []) l ≡ Some e))
        → ((m : ℕ) → slice_get ei m ≡ Some e → Has (base + count a) (o + 8 + length t) i (base + count a + m) e) → Has base o (node k t i a) (base + j) e
    in_inside m q (inl g) hi =
        let s : base + count a + m ≡ base + j = omega (arith, la) in
        inr (inl (rw s at (hi m g)))
    in_inside m q (inr g) hi = let r = g.1 in last g.0 (omega arith) g.2

    in_after : (slice_get ea j ≡ Some e) ⊎ ((l : ℕ) × (j ≡ length ea + l) × (slice_get (ei ++ (x ∷ [])) l ≡ Some e)) → (slice_get ea j ≡ Some e → Has base (o + span t i) a (base + j) e)
        → ((m : ℕ) → slice_get ei m ≡ Some e → Has (base + count a) (o + 8 + length t) i (base + count a + m) e) → Has base o (node k t i a) (base + j) e
    in_after (inl g) ha hi = inl (ha g)
    in_after (inr g) ha hi = in_inside g.0 g.1 (nth_split ei (x ∷ []) g.0 e g.2) hi

-- where an entry's place, offset and named places lie
pub record Lies (base o : ℕ) (n : Nodes) (j : ℕ) (e : Entry) : Type 0 where
  pub low : base ≤ j
  pub high : j < base + count n
  pub from : o ≤ e.offset
  pub to : e.offset + 8 ≤ o + length (bytes_of n)
  pub names : (s : Side) → (named s e.node ≡ 0) ⊎ ((base < named s e.node) × (named s e.node ≤ j))

-- the places that a node itself names
own_names : (base o k : ℕ) (t : List ℕ) (i a : Nodes) (s : Side) → (named s (own base o k t i a).node ≡ 0)
    ⊎ (((s ≡ inside) × (named s (own base o k t i a).node ≡ base + count a + count i) × (0 < count i))
    ⊎ ((s ≡ after) × (named s (own base o k t i a).node ≡ base + count a) × (0 < count a)))
own_names base o k t i a inside = elim (place_cases (base + count a) i) [ inl z ↦ inl z | inr h ↦ inr (inl (refl, h.0, h.1)) ]
own_names base o k t i a after = elim (place_cases base a) [ inl z ↦ inl z | inr h ↦ inr (inr (refl, h.0, h.1)) ]

own_once : (base o k : ℕ) (t : List ℕ) (i a : Nodes) (r s : Side) → 0 < named r (own base o k t i a).node
    → named r (own base o k t i a).node ≡ named s (own base o k t i a).node → r ≡ s
own_once base o k t i a inside inside h e = refl
own_once base o k t i a inside after h e = let x = place_cases (base + count a) i in let y = place_cases base a in absurd (omega arith)
own_once base o k t i a after inside h e = let x = place_cases (base + count a) i in let y = place_cases base a in absurd (omega arith)
own_once base o k t i a after after h e = refl

pub lies : (n : Nodes) (base o j : ℕ) (e : Entry) → Has base o n j e → Lies base o n j e
lies nil base o j e h = absurd h
lies (node k t i a) base o j e (inl h) =
    let l = lies a base (o + span t i) j e h in
    let w = node_length k t i a in
    record { low = omega arith; high = omega arith; from = omega arith; to = omega arith; names = l.names }
lies (node k t i a) base o j e (inr (inl h)) =
    let l = lies i (base + count a) (o + 8 + length t) j e h in
    let w = node_length k t i a in
    record {
      low = omega arith;
      high = omega arith;
      from = omega arith;
      to = omega arith;
      names = λ s. elim (l.names s) [ inl z ↦ inl z | inr g ↦ let x = g.0 in inr (omega arith, g.1) ];
    }
lies (node k t i a) base o j e (inr (inr h)) =
    let w = node_length k t i a in
    let p = h.0 in
    let q = ap (λ (x : Entry). x.offset) h.1 in
    record {
      low = omega arith;
      high = omega arith;
      from = omega arith;
      to = omega arith;
      names = λ s.
          let r = ap (λ (x : Entry). named s x.node) h.1 in
          elim (own_names base o k t i a s) [ inl z ↦ inl (r ∙ z) | inr (inl g) ↦ inr (omega (arith, g.1, g.2), omega (arith, g.1, g.2)) | inr (inr g) ↦ inr (omega (arith, g.1, g.2), omega (arith, g.1, g.2)) ];
    }

-- a higher place is an earlier node
pub falls : (n : Nodes) (base o j k : ℕ) (d e : Entry) → Has base o n j d → Has base o n k e → j < k → e.offset + 8 ≤ d.offset
falls nil base o j k d e h g l = absurd h
falls (node c t i a) base o j k d e (inl h) (inl g) l = falls a base (o + span t i) j k d e h g l
falls (node c t i a) base o j k d e (inl h) (inr (inl g)) l =
    let x = lies a base (o + span t i) j d h in let y = lies i (base + count a) (o + 8 + length t) k e g in omega arith
falls (node c t i a) base o j k d e (inl h) (inr (inr g)) l =
    let x = lies a base (o + span t i) j d h in let q = ap (λ (x : Entry). x.offset) g.1 in omega arith
falls (node c t i a) base o j k d e (inr (inl h)) (inl g) l =
    let x = lies i (base + count a) (o + 8 + length t) j d h in let y = lies a base (o + span t i) k e g in absurd (omega arith)
falls (node c t i a) base o j k d e (inr (inl h)) (inr (inl g)) l = falls i (base + count a) (o + 8 + length t) j k d e h g l
falls (node c t i a) base o j k d e (inr (inl h)) (inr (inr g)) l =
    let x = lies i (base + count a) (o + 8 + length t) j d h in let q = ap (λ (x : Entry). x.offset) g.1 in omega arith
falls (node c t i a) base o j k d e (inr (inr h)) (inl g) l =
    let p = h.0 in let y = lies a base (o + span t i) k e g in absurd (omega arith)
falls (node c t i a) base o j k d e (inr (inr h)) (inr (inl g)) l =
    let p = h.0 in let y = lies i (base + count a) (o + 8 + length t) k e g in absurd (omega arith)
falls (node c t i a) base o j k d e (inr (inr h)) (inr (inr g)) l = let p = h.0 in let q = g.0 in absurd (omega arith)

-- no node's place is named twice
pub once : (n : Nodes) (base o j k : ℕ) (d e : Entry) (s t : Side) → Has base o n j d → Has base o n k e
    → 0 < named s d.node → named s d.node ≡ named t e.node → (j ≡ k) × (s ≡ t)
once nil base o j k d e s t h g z r = absurd h
once (node c x i a) base o j k d e s t (inl h) (inl g) z r = once a base (o + span x i) j k d e s t h g z r
once (node c x i a) base o j k d e s t (inr (inl h)) (inr (inl g)) z r = once i (base + count a) (o + 8 + length x) j k d e s t h g z r
once (node c x i a) base o j k d e s t (inl h) (inr (inl g)) z r =
    let u = lies a base (o + span x i) j d h in
    let u' = u.names s in
    let v = (lies i (base + count a) (o + 8 + length x) k e g).names t in
    absurd (omega arith)
once (node c x i a) base o j k d e s t (inr (inl h)) (inl g) z r =
    let u = (lies i (base + count a) (o + 8 + length x) j d h).names s in
    let v = lies a base (o + span x i) k e g in
    let v' = v.names t in
    absurd (omega arith)
once (node c x i a) base o j k d e s t (inl h) (inr (inr g)) z r =
    let u = lies a base (o + span x i) j d h in
    let u' = u.names s in
    let q = ap (λ (y : Entry). named t y.node) g.1 in
    let v = own_names base o c x i a t in
    absurd (omega arith)
once (node c x i a) base o j k d e s t (inr (inl h)) (inr (inr g)) z r =
    let u = lies i (base + count a) (o + 8 + length x) j d h in
    let u' = u.names s in
    let q = ap (λ (y : Entry). named t y.node) g.1 in
    let v = own_names base o c x i a t in
    absurd (omega arith)
once (node c x i a) base o j k d e s t (inr (inr h)) (inl g) z r =
    let u = lies a base (o + span x i) k e g in
    let u' = u.names t in
    let q = ap (λ (y : Entry). named s y.node) h.1 in
    let v = own_names base o c x i a s in
    absurd (omega arith)
once (node c x i a) base o j k d e s t (inr (inr h)) (inr (inl g)) z r =
    let u = lies i (base + count a) (o + 8 + length x) k e g in
    let u' = u.names t in
    let q = ap (λ (y : Entry). named s y.node) h.1 in
    let v = own_names base o c x i a s in
    absurd (omega arith)
once (node c x i a) base o j k d e s t (inr (inr h)) (inr (inr g)) z r =
    let p = ap (λ (y : Entry). named s y.node) h.1 in
    let q = ap (λ (y : Entry). named t y.node) g.1 in
    (h.0 ∙ sym g.0, own_once base o c x i a s t (omega arith) (sym p ∙ (r ∙ q)))
