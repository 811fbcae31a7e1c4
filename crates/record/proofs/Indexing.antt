-- The index of a record.
use Rattle.std.proofs.Common.{◌≡◌, ℕ, suc, ◌+◌, ◌<◌, ◌≤◌, List, ◌++◌, length, take, Some, sym, refl, ap, ◌∙◌, subst, inl, inr, zero-add, arith, length-append}
use Rattle.std.specs.List.{slice_get}
use Rattle.std.proofs.lemmas.List.{append_assoc, append-nil}
use Rattle.record.specs.declared.run.Node.{Node}
use Rattle.record.specs.declared.index.Entry.{Entry}
use Rattle.record.specs.Numbers.{le, between}
use Rattle.record.specs.Nodes.{Nodes, nil, node, bytes_of, count}
use Rattle.record.specs.Run.{run_at, Spans}
use Rattle.record.specs.Index.{span, place, entries, seen, lowered, shown as shown_up_to, IndexedAs, Side, named, Tells, IndexHolds}
use Rattle.record.proofs.Numbers.{length_le}
use Rattle.record.proofs.Slices.{Cut, cut, between_all}
use Rattle.record.proofs.Looks.{seen_lower}
use Rattle.record.proofs.Seen.{seen_shown, shown}
use Rattle.record.proofs.Entries.{own, entries_length, Stands, stands, place_cases, spells, spans, Has, has, lies, falls, once}

-- what stands in a node's bytes before its inside
abbrev front : ℕ → List ℕ → Nodes → List ℕ
front k t i = le 4 (4 + length t + length (bytes_of i)) ++ (le 2 k ++ (le 2 (length t) ++ t))

front_length : (k : ℕ) (t : List ℕ) (i : Nodes) → length (front k t i) ≡ 8 + length t
front_length k t i = simp (length-append, length_le) (omega arith)

one_node : (k : ℕ) (t : List ℕ) (i : Nodes) → bytes_of (node k t i nil) ≡ front k t i ++ bytes_of i
unfolding bytes_of
one_node k t i = simp (append_assoc, append-nil)

node_first : (k : ℕ) (t : List ℕ) (i a : Nodes) → bytes_of (node k t i a) ≡ bytes_of (node k t i nil) ++ bytes_of a
unfolding bytes_of
node_first k t i a = simp (append_assoc, append-nil)

one_length : (k : ℕ) (t : List ℕ) (i : Nodes) → length (bytes_of (node k t i nil)) ≡ span t i
one_length k t i = ap length (one_node k t i) ∙ (length-append (front k t i) (bytes_of i) ∙ omega (arith, front_length k t i))

-- every entry tells of its node
module _ (bytes : List ℕ) (list : List Entry) where
  tells : (n : Nodes) (base o end j : ℕ) (e : Entry) → Stands list base o n → o ≤ end → end ≤ length bytes → between bytes o end ≡ bytes_of n
      → Has base o n j e → Tells bytes list j e
  tells nil base o end j e s u l b h = absurd h
  tells (node k t i a) base o end j e s u l b h = go h
      (tells a base (o + span t i) end j e s.0 c.fits l c.rest)
      (tells i (base + count a) (o + 8 + length t) (o + span t i) j e s.1 d.fits (omega (arith, c.fits)) d.rest)
    where
      c : Cut bytes o (o + span t i) end (bytes_of (node k t i nil)) (bytes_of a)
      c = cut bytes o (o + span t i) end (bytes_of (node k t i nil)) (bytes_of a) u l (b ∙ node_first k t i a) (omega (arith, one_length k t i))

      d : Cut bytes o (o + 8 + length t) (o + span t i) (front k t i) (bytes_of i)
      d =
          cut bytes o (o + 8 + length t) (o + span t i) (front k t i) (bytes_of i) (omega arith) (omega (arith, c.fits))
          (c.front ∙ one_node k t i) (omega (arith, front_length k t i))

      mine : j ≡ base + count a + count i → Tells bytes list j (own base o k t i a)
      mine q =
          record {
            text = t;
            inner = i;
            size_is = refl;
            bytes_are = c.front;
            inside_is = spells list i (base + count a) (o + 8 + length t) s.1;
            inside_place = elim (place_cases (base + count a) i) [ inl z ↦ inl z | inr z ↦ inr (z.0 ∙ sym q) ];
            after_place = elim (place_cases base a) [ inl z ↦ inl z | inr z ↦ let x = z.0 in inr (omega arith) ];
          }

      go : Has base o (node k t i a) j e → (Has base (o + span t i) a j e → Tells bytes list j e) → (Has (base + count a) (o + 8 + length t) i j e → Tells bytes list j e) → Tells bytes list j e
      go (inl x) ia ii = ia x
      go (inr (inl x)) ia ii = ii x
      go (inr (inr x)) ia ii = subst (Tells bytes list j) (sym x.1) (mine x.0)

module _ (n : Nodes) where
  abbrev pub list : List Entry
  list = entries 0 0 n

  pub at : (k : ℕ) (e : Entry) → slice_get list k ≡ Some e → Has 0 0 n k e
  at k e h = rw zero-add at (has n 0 0 k e h)

  pub stand : Stands list 0 0 n
  stand = stands list n 0 0 (λ j e h. rw zero-add h)

  top : place 0 n ≡ length list
  top = go n ∙ sym (entries_length n 0 0)
    where
      go : (m : Nodes) → place 0 m ≡ count m
      go nil = refl
      go (node k t i a) = omega arith

  low : (k : ℕ) (e : Entry) (s : Side) → slice_get list k ≡ Some e → named s e.node ≤ k
  low k e s h = let l = (lies n 0 0 k e (at k e h)).names s in omega arith

  named_once : (p q : ℕ) (s t : Side) (m l : Node) → seen list p ≡ Some m → seen list q ≡ Some l
      → 0 < named s m → named s m ≡ named t l → (p ≡ q) × (s ≡ t)
  named_once p q s t m l h g z r =
      let x = shown list p m h in
      let y = shown list q l g in
      let u = ap (named s) x.node_is in
      let v = ap (named t) y.node_is in
      let w = once n 0 0 x.k y.k x.entry y.entry s t (at x.k x.entry x.at) (at y.k y.entry y.at) (omega arith) (u ∙ (r ∙ sym v)) in
      (x.place_is ∙ (ap suc w.0 ∙ sym y.place_is), w.1)

top_place : (n : Nodes) → place 0 n ≡ count n
top_place nil = refl
top_place (node k t i a) = zero-add (count (node k t i a))

spanned : (bytes : List ℕ) (list : List Entry) (n : ℕ) → IndexedAs bytes list n → Spans (shown_up_to list n) 0 (lowered list n) (lowered list n)
spanned bytes list n x =
    let m = x.is.number in
    let e : lowered list n ≡ n = omega (arith, x.count_is, x.room) in
    let ns = x.is.nodes in
    let z : Spans (seen (entries 0 0 ns)) 0 (count ns) (place 0 ns) = spans (entries 0 0 ns) ns 0 0 (stand ns) in
    let y : Spans (seen (entries 0 0 ns)) 0 n n = subst (λ k. Spans (seen (entries 0 0 ns)) 0 k k) (sym x.count_is) (subst (Spans (seen (entries 0 0 ns)) 0 (count ns)) (top_place ns) z) in
    subst (λ k. Spans (seen (take k list)) 0 k k) (sym e) (subst (λ xs. Spans (seen xs) 0 n n) (sym x.filled) y)

pub index_holds : IndexHolds
index_holds =
    record {
      lower = seen_lower;
      indexed = λ n. record {
        long = entries_length n 0 0;
        whole = ap (run_at (seen (list n))) (sym (top n)) ∙ spells (list n) n 0 0 (stand n);
        all_seen = λ k e h. seen_shown (list n) k e h (low n k e Side.inside h) (low n k e Side.after h);
        tells = λ k e h. tells (bytes_of n) (list n) n 0 0 (length (bytes_of n)) k e (stand n) (omega arith) (omega arith) (between_all (bytes_of n)) (at n k e h);
        falls = λ j k d e h g l. falls n 0 0 j k d e (at n j d h) (at n k e g) l;
        once = named_once n;
      };
      spans = spanned;
    }
