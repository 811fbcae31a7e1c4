-- The steps of filling a list of entries.
use Rattle.std.proofs.Common.{◌≡◌, ℕ, ◌+◌, ◌-◌, ◌<◌, ◌≤◌, List, ◌∷◌, ◌++◌, length, get_or, take, drop, set, sym, refl, ap, ◌∙◌, ap₂, append_assoc, arith, length-append}
use Rattle.std.proofs.lemmas.List.{length-take-le, take_at, drop_at, take-append-le, take-take, take-append-drop, drop_more, set_at}
use Rattle.record.specs.declared.index.Entry.{Entry}
use Rattle.record.specs.declared.parse.Head.{Head}
use Rattle.record.specs.declared.parse.Passed.{Passed}
use Rattle.record.specs.Nodes.{Nodes, nil, node, count}
use Rattle.record.specs.Index.{span, place, entries, seen, lowered, IndexedAs}
use Rattle.record.specs.Limits.{max_nodes}
use Rattle.record.specs.Run.{run_at}
use Rattle.record.specs.Record.{inside_at, end_at}
use Rattle.record.specs.Parse.{kind_at, Headed, Recorded}
use Rattle.record.specs.Fill.{Spelt, Fillable, Filled, NodeFilled, entry_of}
use Rattle.record.proofs.Entries.{entries_length}
use Rattle.record.proofs.Slices.{between_all}
use Rattle.record.proofs.Indexing.{index_holds}
use Rattle.record.proofs.Begins.{Begins, begins, empty_none, node_room}

-- a node can be filled in: its head is there, it has a place, and so have its inside and what comes after it
pub record NodeFillable (bytes : List ℕ) (at end top room : ℕ) : Type 0 where
  pub head_fits : at + 8 ≤ length bytes
  pub some : 1 ≤ top
  pub inner : {h : Head} → Headed bytes at h → Fillable bytes h.inside h.end (top - 1) room
  pub ends : {h : Head} → Headed bytes at h → (at + 8 ≤ h.inside) × (h.inside ≤ h.end) × (h.end ≤ end)

module _ {bytes : List ℕ} {at end top room : ℕ} (f : Fillable bytes at end top room) (lt : at < end) where
  node_fillable_at : (n : Nodes) → Spelt bytes at end n → f.base + count n ≡ top → NodeFillable bytes at end top room
  node_fillable_at nil s e = let z = empty_none s f.up f.fits in absurd (omega arith)
  node_fillable_at (node k t i a) s e =
      let z = node_room s f.up f.fits in
      let l = f.fits in
      let m = f.top_fits in
      record {
        head_fits = omega arith;
        some = omega arith;
        inner = λ {h} d. let b : Begins bytes at end h k t i a = begins s f.up l d in
            let p = b.inside_is in
            let q = b.end_is in
            let r = b.fits in
            record { short = f.short; up = omega arith; fits = omega arith; nodes = i; spelt = b.inner; base = f.base + count a; top_is = omega arith; top_fits = omega arith };
        ends = λ {h} d. let b : Begins bytes at end h k t i a = begins s f.up l d in
            let p = b.inside_is in
            let q = b.end_is in
            let r = b.fits in
            (omega arith, omega arith, r);
      }

  pub node_fillable : NodeFillable bytes at end top room
  node_fillable = node_fillable_at f.nodes f.spelt f.top_is

-- an empty run
pub filled_none : {bytes : List ℕ} {at end top : ℕ} (old : List Entry) (base : ℕ) (n : Nodes) → Spelt bytes at end n → at ≤ end → end ≤ length bytes → end ≤ at → base + count n ≡ top
    → Filled old old base at n top top
unfolding entries
filled_none {top = top} old base nil s u l h e =
    let g : base ≡ top = omega arith in
    record { left_is = sym g; list_is = rw g (sym (take-append-drop top old)) }
filled_none old base (node k t i a) s u l h e = let z = node_room s u l in absurd (omega arith)

-- one entry after others
put : (old : List Entry) (m n : ℕ) (es : List Entry) (e : Entry) → m + length es ≡ n → n < length old
    → set (take m old ++ (es ++ drop n old)) n e ≡ take m old ++ (es ++ (e ∷ drop (n + 1) old))
put old m n es e h l =
    let len : length (take m old ++ es) ≡ n = length-append (take m old) es ∙ (ap (λ x. x + length es) (length-take-le m old (omega arith)) ∙ h) in
    ap (λ xs. set xs n e) (sym (append_assoc (take m old) es (drop n old)) ∙ ap (λ ys. (take m old ++ es) ++ ys) (drop_more old n e l))
    ∙ (set_at (take m old ++ es) (get_or old n e) (drop (n + 1) old) e n len ∙ append_assoc (take m old) es (e ∷ drop (n + 1) old))

-- the entry of a node after those of its inside
pub node_filled : {bytes : List ℕ} {at end top : ℕ} {h : Head} {left x y : ℕ} (old new : List Entry) (base k : ℕ) (t : List ℕ) (i a : Nodes)
    → Begins bytes at end h k t i a → top ≤ length old → base + count (node k t i a) ≡ top
    → Filled old new (base + count a) h.inside i (top - 1) left → x ≡ place (base + count a) i → y ≡ place base a
    → NodeFilled old (set new (top - 1) (record { node = record { kind = h.kind; inside = x; after = y }; offset = at; size = h.end - at })) base at k t i a top (record { next = h.end; count = left })
node_filled {bytes} {at} {end} {top} {h} {left} {x} {y} old new base k t i a b l e f p q =
    let end_is = b.end_is in
    let z : h.end - at ≡ span t i = omega arith in
    let E : Entry = record { node = record { kind = h.kind; inside = x; after = y }; offset = at; size = h.end - at } in
    let same : E ≡ entry_of base at k t i a =
    let kk = b.kind_is in cc in
    let es : List Entry = entries (base + count a) (at + 8 + length t) i in
    let m : ℕ = base + count a in
    let up : (top - 1) + 1 ≡ top = omega arith in
    let was : new ≡ take m old ++ (es ++ drop (top - 1) old) = f.list_is ∙ ap (λ o. take m old ++ (entries m o i ++ drop (top - 1) old)) b.inside_is in
    record {
      next_is = end_is;
      left_is = f.left_is;
      list_is =
          ap (λ xs. set xs (top - 1) E) was
          ∙ (put old m (top - 1) es E (omega (arith, entries_length i m (at + 8 + length t))) (omega arith)
          ∙ ap₂ (λ e₁ n. take m old ++ (es ++ (e₁ ∷ drop n old))) same up);
    }

-- a node, and then what comes after it
pub filled_more : {at top r : ℕ} {p : Passed} (old mid new : List Entry) (base k : ℕ) (t : List ℕ) (i a : Nodes) → base + count a ≤ length old
    → NodeFilled old mid base at k t i a top p → Filled mid new base p.next a p.count r → Filled old new base at (node k t i a) top r
unfolding entries
filled_more {at} {top} {r} {p} old mid new base k t i a l w v =
    let m : ℕ = base + count a in
    let rest : List Entry = entries m (at + 8 + length t) i ++ (entry_of base at k t i a ∷ drop top old) in
    let len : length (take m old) ≡ m = length-take-le m old l in
    let front : take base mid ≡ take base old =
    ap (take base) w.list_is ∙ (take-append-le base (take m old) rest (omega arith) ∙ take-take base m old (omega arith)) in
    let back : drop m mid ≡ rest = ap (drop m) w.list_is ∙ drop_at (take m old) rest m len in
    let then : List Entry = entries base (at + span t i) a in
    record {
      left_is = v.left_is;
      list_is =
          v.list_is
          ∙ (ap₂ (λ o c. take base mid ++ (entries base o a ++ drop c mid)) w.next_is w.left_is
          ∙ (ap₂ (λ u d. u ++ (then ++ d)) front back ∙ ap (λ d. take base old ++ d) (sym (simp append_assoc))));
    }

-- what comes after a node
pub record After (bytes : List ℕ) (at end k : ℕ) (t : List ℕ) (i a : Nodes) (p : Passed) : Type 0 where
  pub further : at < p.next
  pub fits : p.next ≤ end
  pub rest : Spelt bytes p.next end a

after_node : {bytes : List ℕ} {at end k : ℕ} {t : List ℕ} {i a : Nodes} (p : Passed) → Spelt bytes at end (node k t i a) → at ≤ end → end ≤ length bytes → p.next ≡ at + span t i
    → After bytes at end k t i a p
after_node {bytes} {at} {end} {k} {t} {i} {a} p s u l e =
    let h : Head = record { kind = kind_at bytes at; inside = inside_at bytes at; end = end_at bytes at } in
    let b : Begins bytes at end h k t i a = begins s u l (record { kind_is = refl; inside_is = refl; end_is = refl }) in
    let q : p.next ≡ h.end = e ∙ sym b.end_is in
    let f = b.fits in
    record { further = omega arith; fits = omega arith; rest = rw q b.rest }

abbrev pub FillsNode : List ℕ → List Entry → List Entry → ℕ → ℕ → ℕ → Passed → Type 0
FillsNode bytes old new at end top p =
    (base k : ℕ) (t : List ℕ) (i a : Nodes) → Spelt bytes at end (node k t i a) → base + count (node k t i a) ≡ top → NodeFilled old new base at k t i a top p

abbrev pub FillsRun : List ℕ → List Entry → List Entry → ℕ → ℕ → ℕ → ℕ → Type 0
FillsRun bytes old new at end top r = (base : ℕ) (n : Nodes) → Spelt bytes at end n → base + count n ≡ top → Filled old new base at n top r

module _ {bytes : List ℕ} {at end top : ℕ} (old mid : List Entry) (p : Passed) (lt : at < end) (same : length mid ≡ length old) (w : FillsNode bytes old mid at end top p) where
  next_fillable_at : (f : Fillable bytes at end top (length old)) (n : Nodes) → Spelt bytes at end n → f.base + count n ≡ top → (at < p.next) × Fillable bytes p.next end p.count (length mid)
  next_fillable_at f nil s e = let z = empty_none s f.up f.fits in absurd (omega arith)
  next_fillable_at f (node k t i a) s e =
      let v = w f.base k t i a s e in
      let x : After bytes at end k t i a p = after_node p s f.up f.fits v.next_is in
      let q = v.left_is in
      let m = f.top_fits in
      (x.further, record { short = f.short; up = x.fits; fits = f.fits; nodes = a; spelt = x.rest; base = f.base; top_is = sym q; top_fits = omega arith })

  -- the rest of the run can be filled in, and is shorter
  pub next_fillable : Fillable bytes at end top (length old) → (at < p.next) × Fillable bytes p.next end p.count (length mid)
  next_fillable f = next_fillable_at f f.nodes f.spelt f.top_is

  pub run_filled : (new : List Entry) (r : ℕ) → top ≤ length old → end ≤ length bytes → FillsRun bytes mid new p.next end p.count r → FillsRun bytes old new at end top r
  run_filled new r m l v base nil s e = let z = empty_none s (omega arith) l in absurd (omega arith)
  run_filled new r m l v base (node k t i a) s e =
      let x = w base k t i a s e in
      let y : After bytes at end k t i a p = after_node p s (omega arith) l x.next_is in
      let q = x.left_is in
      filled_more old mid new base k t i a (omega arith) x (v base a y.rest (sym q))

pub all_spelt : {bytes : List ℕ} {n : ℕ} (r : Recorded bytes n) → Spelt bytes 0 (length bytes) r.is.nodes
all_spelt {bytes} r = record { fits = r.is.fits; spelt = between_all bytes ∙ sym r.is.spelt }

-- a record can be indexed
pub first_fillable : {bytes : List ℕ} {n room : ℕ} → Recorded bytes n → max_nodes ≤ room → Fillable bytes 0 (length bytes) n room
first_fillable {bytes} r l =
    let e = r.count_is in
    let m = r.is.number in
    record { short = r.is.size; up = omega arith; fits = omega arith; nodes = r.is.nodes; spelt = all_spelt r; base = 0; top_is = omega arith; top_fits = omega arith }

pub indexed_as : {bytes : List ℕ} {n r : ℕ} (old new : List Entry) → length new ≡ length old → max_nodes ≤ length old → Recorded bytes n → FillsRun bytes old new 0 (length bytes) n r
    → IndexedAs bytes new n
indexed_as {bytes} {n} {r} old new same l w f =
    let e = w.count_is in
    let m = w.is.number in
    let es : List Entry = entries 0 0 w.is.nodes in
    let long : length es ≡ n = entries_length w.is.nodes 0 0 ∙ sym e in
    let v = f 0 w.is.nodes (all_spelt w) (omega arith) in
    let filled : take n new ≡ es = ap (take n) v.list_is ∙ take_at es (drop n old) n long in
    let low : lowered new n ≡ n = omega arith in
    record {
      is = w.is;
      room = omega arith;
      count_is = e;
      filled = filled;
      whole = ap (λ k. run_at (seen (take k new)) k) low ∙ (ap (λ xs. run_at (seen xs) n) filled ∙ (ap (λ k. run_at (seen es) k) (sym long) ∙ (index_holds.indexed w.is.nodes).whole));
    }
