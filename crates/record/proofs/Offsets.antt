-- In bytes of a run, the nodes that are due are those of the entries.
use Rattle.std.proofs.Common.{◌≡◌, ℕ, ◌+◌, ◌<◌, ◌≤◌, ◌⊎◌, List, length, Some, sym, refl, ap, ◌∙◌, subst, inl, inr, arith}
use Rattle.std.specs.List.{slice_get}
use Rattle.record.specs.declared.index.Entry.{Entry}
use Rattle.record.specs.Numbers.{between}
use Rattle.record.specs.Nodes.{Nodes, nil, node, bytes_of, count, Fit}
use Rattle.record.specs.declared.fault.Flaw.{Flaw}
use Rattle.record.specs.declared.fault.Flaw.TheVariants.{TooDeep, TooMany, CutShort, TextTooLong}
use Rattle.record.specs.declared.fault.Cause.TheVariants.{Flawed}
use Rattle.record.specs.Fault.{Fault, number}
use Rattle.record.specs.Record.{inside_at, end_at, Called, Holds, Due, first, inside, after, OnlyLimits}
use Rattle.record.specs.Index.{span, entries, Listed, Offsets}
use Rattle.record.proofs.Slices.{between_length, between_all}
use Rattle.record.proofs.Injective.{injective_holds}
use Rattle.record.proofs.Due.{due_in}
use Rattle.record.proofs.Opens.{Opens, opens, Split, split}
use Rattle.record.proofs.Entries.{own, entries_length, Stands, Has}
use Rattle.record.proofs.Indexing.{at, stand}

-- what a run has stands in the list
had : (list : List Entry) (n : Nodes) (base o j : ℕ) (e : Entry) → Stands list base o n → Has base o n j e → slice_get list j ≡ Some e
had list nil base o j e s h = absurd h
had list (node k t i a) base o j e s (inl h) = had list a base (o + span t i) j e s.0 h
had list (node k t i a) base o j e s (inr (inl h)) = had list i (base + count a) (o + 8 + length t) j e s.1 h
had list (node k t i a) base o j e s (inr (inr h)) = ap (slice_get list) h.0 ∙ (s.2 ∙ ap Some (sym h.1))

module _ (bytes : List ℕ) where
  inside_is : {o end k : ℕ} {t : List ℕ} {i a : Nodes} → Opens bytes o end k t i a → inside_at bytes o ≡ o + 8 + length t
  inside_is c = let x = c.text in omega arith

  end_is : {o end k : ℕ} {t : List ℕ} {i a : Nodes} → Opens bytes o end k t i a → end_at bytes o ≡ o + span t i
  end_is c = let x = c.size in omega arith

module _ (bytes : List ℕ) (n : Nodes) where
  -- the run from a node that is due is a part of the whole
  record Part (o end before : ℕ) : Type 0 where
    run : Nodes
    base : ℕ
    fits : Fit run
    spelt : between bytes o end ≡ bytes_of run
    part : (j : ℕ) (e : Entry) → Has base o run j e → Has 0 0 n j e
    total : base + count run + before ≡ count n

  -- such a run is not empty
  record NodePart (o end before : ℕ) : Type 0 where
    k : ℕ
    t : List ℕ
    i : Nodes
    a : Nodes
    base : ℕ
    fits : Fit (node k t i a)
    opened : Opens bytes o end k t i a
    part : (j : ℕ) (e : Entry) → Has base o (node k t i a) j e → Has 0 0 n j e
    total : base + count (node k t i a) + before ≡ count n

  node_part : (o end before : ℕ) → o < end → end ≤ length bytes → Part o end before → NodePart o end before
  node_part o end before u l p = go p.run p.fits p.spelt p.part p.total
    where
      go : (m : Nodes) → Fit m → between bytes o end ≡ bytes_of m → ((j : ℕ) (e : Entry) → Has p.base o m j e → Has 0 0 n j e) → p.base + count m + before ≡ count n → NodePart o end before
      go nil f s h q =
          let e : length (between bytes o end) ≡ 0 = unfold bytes_of in ap length s in
          absurd (omega (arith, between_length bytes o end l))
      go (node k t i a) f s h q =
          record { k = k; t = t; i = i; a = a; base = p.base; fits = f; opened = opens bytes o end k t i a f (omega arith) l s; part = h; total = q }

  module _ (fits : Fit n) (spelt : bytes_of n ≡ bytes) where
    parts : {o end level before : ℕ} → Due bytes o end level before → Part o end before
    parts (first h) = record { run = n; base = 0; fits = fits; spelt = between_all bytes ∙ sym spelt; part = λ j e x. x; total = omega arith }
    parts (inside {o} {end} {level} {before} d s h) =
        let g = due_in bytes d in
        let p = node_part o end before g.0 g.1 (parts d) in
        let q = p.total in
        record {
          run = p.i;
          base = p.base + count p.a;
          fits = p.fits.4;
          spelt = p.opened.inner;
          part = λ j e x. p.part j e (inr (inl (subst (λ z. Has (p.base + count p.a) z p.i j e) (inside_is bytes p.opened) x)));
          total = omega arith;
        }
    parts (after {o} {end} {level} {before} m d s x h) =
        let g = due_in bytes d in
        let p = node_part o end before g.0 g.1 (parts d) in
        let c = ap count (injective_holds p.i m p.fits.4 x.fits (sym p.opened.inner ∙ sym x.spelt)) in
        let q = p.total in
        record {
          run = p.a;
          base = p.base;
          fits = p.fits.5;
          spelt = p.opened.rest;
          part = λ j e y. p.part j e (inl (subst (λ z. Has p.base z p.a j e) (end_is bytes p.opened) y));
          total = omega arith;
        }

    first_node : {o end level before : ℕ} → Due bytes o end level before → NodePart o end before
    first_node {o} {end} {level} {before} d = let g = due_in bytes d in node_part o end before g.0 g.1 (parts d)

    listed : {o end level before : ℕ} → Due bytes o end level before → Listed bytes (entries 0 0 n) o before
    listed {o} {end} {level} {before} d =
        let p = first_node d in
        let q = p.total in
        let j : ℕ = p.base + count p.a + count p.i in
        let e : Entry = own p.base o p.k p.t p.i p.a in
        record {
          k = j;
          entry = e;
          at = had (entries 0 0 n) n 0 0 j e (stand n) (p.part j e (inr (inr (refl, refl))));
          offset_is = refl;
          ends = sym (end_is bytes p.opened);
          before_is = omega (arith, entries_length n 0 0);
        }

    -- its nodes are neither cut short nor have they too long a text
    limited : {o end level before : ℕ} (f : Flaw) → Due bytes o end level before → Called bytes o end level before f → (number (Flawed f) ≡ 4) ⊎ (number (Flawed f) ≡ 5)
    limited CutShort d c = let x = (first_node d).opened in absurd (omega arith)
    limited TextTooLong d c = let x = (first_node d).opened in absurd (omega arith)
    limited TooDeep d c = inl refl
    limited TooMany d c = inr refl

pub only_limits_hold : OnlyLimits
only_limits_hold n e f l (inl x) = absurd (omega arith)
only_limits_hold n e f l (inr x) =
    let c = ap (λ (d : Fault). number d.cause) x.is in
    elim (limited (bytes_of n) n f refl x.flaw x.due x.called) [ inl q ↦ inl (c ∙ q) | inr q ↦ inr (c ∙ q) ]

module _ (bytes : List ℕ) where
  -- an entry of a run that is due is that of a node that is due
  record Met (j : ℕ) (e : Entry) (sum : ℕ) : Type 0 where
    end : ℕ
    level : ℕ
    before : ℕ
    due : Due bytes e.offset end level before
    total : j + 1 + before ≡ sum

  met : (m : Nodes) (base o end level before sum j : ℕ) (e : Entry) → Holds bytes o end level before m → (o < end → Due bytes o end level before) → o ≤ end → end ≤ length bytes
      → base + count m + before ≡ sum → Has base o m j e → Met j e sum
  met nil base o end level before sum j e h due u l q x = absurd x
  met (node k t i a) base o end level before sum j e h due u l q x =
      go x
      (λ y. met a base (end_at bytes o) end level (before + 1 + count i) sum j e c.rest
      (λ z. after i (due here) c.sound c.inner z) c.sound.size_fits l (omega arith) (subst (λ z. Has base z a j e) (sym (end_is bytes c.open')) y))
      (λ y. met i (base + count a) (inside_at bytes o) (end_at bytes o) (level + 1) (before + 1) sum j e c.inner
      (λ z. inside (due here) c.sound z) c.sound.text_fits (omega (arith, c.sound.size_fits)) (omega arith) (subst (λ z. Has (base + count a) z i j e) (sym (inside_is bytes c.open')) y))
    where
      c : Split bytes o end level before k t i a
      c = split bytes o end level before k t i a h u l

      here : o < end
      here = omega (arith, c.sound.head_fits)

      go : Has base o (node k t i a) j e → (Has base (o + span t i) a j e → Met j e sum) → (Has (base + count a) (o + 8 + length t) i j e → Met j e sum) → Met j e sum
      go (inl y) f g = f y
      go (inr (inl y)) f g = g y
      go (inr (inr y)) f g =
          let r = y.0 in
          record {
            end = end;
            level = level;
            before = before;
            due = subst (λ z. Due bytes z end level before) (sym (ap (λ (v : Entry). v.offset) y.1)) (due here);
            total = omega arith;
          }

pub offsets_hold : Offsets
offsets_hold bytes r o before = (
  λ d. listed bytes r.nodes r.fits r.spelt d.2,
  λ s.
      let x = s.before_is in
      let m = met bytes r.nodes 0 0 (length bytes) 1 0 (count r.nodes) s.k s.entry whole (λ h. first h) (omega arith) (omega arith) (omega arith) (at r.nodes s.k s.entry s.at) in
      let y = m.total in
      let b : m.before ≡ before = omega (arith, entries_length r.nodes 0 0) in
      (m.end, m.level, subst (λ z. Due bytes o m.end m.level z) b (subst (λ z. Due bytes z m.end m.level m.before) s.offset_is m.due)),
)
  where
    whole : Holds bytes 0 (length bytes) 1 0 r.nodes
    whole =
        record { fits = r.fits; spelt = r.spelt ∙ sym (between_all bytes); depth = let d = r.depth in omega arith; number = let d = r.number in omega arith }
