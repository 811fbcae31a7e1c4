-- Where there is one reading, the marks of the rules in use are its own.
use Rattle.std.proofs.Common.{◌≡◌, ℕ, zero, suc, ◌+◌, ◌<◌, ◌≤◌, Bool, true, false, ◌↔◌, List, [], ◌++◌, Some, None, Option, sym, refl, ap, ◌∙◌, subst, ap₂, add-zero, add-suc, arith}
use Rattle.record.specs.declared.run.Node.{Node}
use Rattle.record.specs.Run.{Run, node, Lower, run_at, Spans, empty, full}
use Rattle.record.proofs.Places.{run_some}
use Rattle.table.specs.declared.rule.Rule.{Rule}
use Rattle.table.specs.Sets.{bit, Bit}
use Rattle.table.specs.Table.{Tab}
use Rattle.table.specs.Reading.{Reading, stop, skip, take, Reads, Single}
use Rattle.table.specs.Scratch.{ExactSome}
use Rattle.table.specs.Marks.{carries, put, marked, picked}
use Rattle.table.specs.Listing.{Alive, comes, slides, Uses}
use Rattle.table.proofs.Bits.{same_truth}
use Rattle.table.proofs.Apart.{take_rule, take_inside, take_after}

-- a reading after its empty rules
abbrev pub core : Reading → Reading
core stop = stop
core (skip r ρ) = core ρ
core (take r ρ σ) = take r ρ σ

-- the sets of a node are right: its live states, those passed on inside (if P) and after (if Q), and its marks
pub record Lit {C : Type 0} (kinds : C → ℕ → Bool) (T : Tab C) (k : ℕ) (P Q : Type 0) (some enter some_in some_after enter_in enter_after marks : ℕ) : Type 0 where
  pub live : ℕ
  pub lives : (q : ℕ) → Bit live q ↔ Alive T (bit some) (bit enter) q
  pub insides : P → (s : ℕ) → Bit enter_in s ↔ ((r t : ℕ) × (Uses kinds T k (bit live) (bit some_in) (bit some_after) r s t))
  pub afters : Q → (t : ℕ) → Bit enter_after t ↔ ((r s : ℕ) × (Uses kinds T k (bit live) (bit some_in) (bit some_after) r s t))
  pub noted : (m : ℕ) → Bit marks m ↔ ((r s t : ℕ) × (Uses kinds T k (bit live) (bit some_in) (bit some_after) r s t) × (carries T.rules r m ≡ true))

module _ {C : Type 0} (kinds : C → ℕ → Bool) (T : Tab C) where
  -- every reading of what comes in is this one
  abbrev pub Only : (ℕ → Bool) → Run → Reading → Type 0
  Only enter w ρ = (q : ℕ) (σ : Reading) → enter q ≡ true → Reads kinds T q w σ → ρ ≡ σ

  same_core : (w : Run) (some enter : ℕ → Bool) (ρ : Reading) → Only enter w ρ → (q : ℕ) → Alive T some enter q → (σ : Reading) → Reads kinds T q w σ → core ρ ≡ core σ
  same_core w some enter ρ only q (comes e o) σ x = ap core (only q σ e x)
  same_core w some enter ρ only t (slides {q = q} r al k o) σ x = same_core w some enter ρ only q al (skip r σ) (t, k, x)

  -- where a reading takes the node
  pub record Reached (k : ℕ) (v w : Run) (some enter : ℕ → Bool) (ρ : Reading) : Type 0 where
    pub state : ℕ
    pub rule : ℕ
    pub inner : Reading
    pub outer : Reading
    pub alive : Alive T some enter state
    core_is : core ρ ≡ take rule inner outer
    pub reads : Reads kinds T state (node k v w) (take rule inner outer)

  reach : (k : ℕ) (v w : Run) (some enter : ℕ → Bool) → ExactSome kinds T (node k v w) some
      → (ρ : Reading) (q : ℕ) → Alive T some enter q → Reads kinds T q (node k v w) ρ → Reached k v w some enter ρ
  reach k v w some enter exact stop q al x = absurd x
  reach k v w some enter exact (skip r ρ) q al x =
      let f = reach k v w some enter exact ρ x.0 (slides r al x.1 ((exact x.0).1 (ρ, x.2))) x.2 in
      record { state = f.state; rule = f.rule; inner = f.inner; outer = f.outer; alive = f.alive; core_is = f.core_is; reads = f.reads }
  reach k v w some enter exact (take r ρ σ) q al x = record { state = q; rule = r; inner = ρ; outer = σ; alive = al; core_is = refl; reads = x }

  module _ (k : ℕ) (v w : Run) (P Q : Type 0) (some enter some_in some_after enter_in enter_after marks : ℕ)
      (lit : Lit kinds T k P Q some enter some_in some_after enter_in enter_after marks)
      (exact_in : ExactSome kinds T v (bit some_in)) (exact_after : ExactSome kinds T w (bit some_after))
      (ρ : Reading) (only : Only (bit enter) (node k v w) ρ) (f : Reached k v w (bit some) (bit enter) ρ) where
    pub used : Uses kinds T k (bit lit.live) (bit some_in) (bit some_after) f.rule f.reads.0 f.reads.1
    used =
        (f.state, f.reads.2, (lit.lives f.state).1 f.alive, (exact_in f.reads.0).1 (f.inner, f.reads.3), (exact_after f.reads.1).1 (f.outer, f.reads.4))

    -- a rule in use is the reading's own, and so are the readings after it
    agree : (r s t : ℕ) → Uses kinds T k (bit lit.live) (bit some_in) (bit some_after) r s t → (σ τ : Reading) → Reads kinds T s v σ → Reads kinds T t w τ
        → take f.rule f.inner f.outer ≡ take r σ τ
    agree r s t u σ τ x y =
        sym f.core_is ∙ same_core (node k v w) (bit some) (bit enter) ρ only u.0 ((lit.lives u.0).0 u.2) (take r σ τ) (s, t, u.1, x, y)

    only_inside : P → Only (bit enter_in) v f.inner
    only_inside z s σ e x =
        let u = (lit.insides z s).0 e in
        let y = (exact_after u.1).0 u.2.4 in
        take_inside (agree u.0 s u.1 u.2 σ y.0 x y.1)

    only_after : Q → Only (bit enter_after) w f.outer
    only_after z t σ e x =
        let u = (lit.afters z t).0 e in
        let y = (exact_in u.1).0 u.2.3 in
        take_after (agree u.0 u.1 t u.2 y.0 σ y.1 x)

    pub carried_is : (m : ℕ) → bit marks m ≡ carries T.rules f.rule m
    carried_is m =
        same_truth (bit marks m) (carries T.rules f.rule m)
        (λ e.
        let u = (lit.noted m).0 e in
        let x = (exact_in u.1).0 u.3.3 in
        let y = (exact_after u.2).0 u.3.4 in
        let r : f.rule ≡ u.0 = take_rule (agree u.0 u.1 u.2 u.3 x.0 y.0 x.1 y.1) in
        ap (λ z. carries T.rules z m) r ∙ u.4)
        (λ e. (lit.noted m).1 (f.rule, f.reads.0, f.reads.1, used, e))

put_append : (c : Bool) (l : ℕ) (xs ys : List ℕ) → put c l xs ++ ys ≡ put c l (xs ++ ys)
put_append true l xs ys = refl
put_append false l xs ys = refl

picked_split : (c : ℕ → Bool) (b x y : ℕ) → picked c b (x + y) ≡ picked c (b + x) y ++ picked c b x
picked_split c b x zero = ap (picked c b) (add-zero x)
picked_split c b x (suc y) =
    let e : b + suc (x + y) ≡ b + x + suc y = omega arith in
    ap (picked c b) (add-suc x y)
    ∙ (ap₂ (λ z l. put (c z) z l) e (picked_split c b x y) ∙ sym (put_append (c (b + x + suc y)) (b + x + suc y) (picked c (b + x) y) (picked c b x)))

module _ {C : Type 0} (rules : List (Rule C)) (m : ℕ) (seen : ℕ → Option Node) where
  abbrev marked_step : ℕ → ℕ → Reading → Reading → Option Node → List ℕ
  marked_step p r ρ σ None = []
  marked_step p r ρ σ (Some n) = put (carries rules r m) p (marked rules m seen n.inside ρ ++ marked rules m seen n.after σ)

  marked_take : (p r : ℕ) (ρ σ : Reading) (o : Option Node) → seen p ≡ o → marked rules m seen p (take r ρ σ) ≡ marked_step p r ρ σ o
  marked_take p r ρ σ o e = ap (marked_step p r ρ σ) e

  marked_core : (p : ℕ) (ρ : Reading) → marked rules m seen p (core ρ) ≡ marked rules m seen p ρ
  marked_core p stop = refl
  marked_core p (skip r ρ) = marked_core p ρ
  marked_core p (take r ρ σ) = refl

  marked_none : (p : ℕ) → seen p ≡ None → (ρ : Reading) → marked rules m seen p ρ ≡ []
  marked_none p e stop = refl
  marked_none p e (skip r ρ) = marked_none p e ρ
  marked_none p e (take r ρ σ) = marked_take p r ρ σ None e

none_at_zero : (seen : ℕ → Option Node) → Lower seen → seen 0 ≡ None
none_at_zero seen lower = go (seen 0) refl
  where
    go : (o : Option Node) → seen 0 ≡ o → seen 0 ≡ None
    go None e = e
    go (Some n) e = let h = lower 0 n e in absurd (omega arith)

-- right sets at every place up to the top list what the one reading marks
module _ {C : Type 0} (kinds : C → ℕ → Bool) (T : Tab C) (seen : ℕ → Option Node) (lower : Lower seen) (top : ℕ) (S E M : ℕ → ℕ)
    (exact : (u : ℕ) → u ≤ top → ExactSome kinds T (run_at seen u) (bit (S u)))
    (lit : (u : ℕ) → 0 < u → u ≤ top → (n : Node) → seen u ≡ Some n
    → Lit kinds T n.kind (0 < n.inside) (0 < n.after) (S u) (E u) (S n.inside) (S n.after) (E n.inside) (E n.after) (M u)) (m : ℕ) where
  spread : {b s p : ℕ} → Spans seen b s p → p ≤ top → (q : ℕ) (ρ : Reading) → (0 < p → Bit (E p) q) → Reads kinds T q (run_at seen p) ρ
      → (0 < p → Only kinds T (bit (E p)) (run_at seen p) ρ) → picked (λ u. bit (M u) m) b s ≡ marked T.rules m seen p ρ
  spread empty h q ρ come x lone = sym (marked_none T.rules m seen 0 (none_at_zero seen lower) ρ)
  spread (full {b = b} {x = c} {y = y} {s = s} {p = p} n es ep e inside after) h q ρ come x lone =
      let k = n.kind in
      let v = run_at seen n.inside in
      let w = run_at seen n.after in
      let l = lower p n e in
      let up : 0 < p = omega arith in
      let run : run_at seen p ≡ node k v w = run_some seen lower p n e in
      let y' : Reads kinds T q (node k v w) ρ = subst (λ z. Reads kinds T q z ρ) run x in
      let only : Only kinds T (bit (E p)) (node k v w) ρ = subst (λ z. Only kinds T (bit (E p)) z ρ) run (lone up) in
      let here : ExactSome kinds T (node k v w) (bit (S p)) = subst (λ z. ExactSome kinds T z (bit (S p))) run (exact p h) in
      let ei = exact n.inside (omega arith) in
      let ea = exact n.after (omega arith) in
      let f = reach kinds T k v w (bit (S p)) (bit (E p)) here ρ q (comes (come up) ((here q).1 (ρ, y'))) y' in
      let lt = lit p up h n e in
      let P = 0 < n.inside in
      let Q = 0 < n.after in
      let u = used kinds T k v w P Q (S p) (E p) (S n.inside) (S n.after) (E n.inside) (E n.after) (M p) lt ei ea ρ only f in
      let ys : picked (λ z. bit (M z) m) (b + c) y ≡ marked T.rules m seen n.inside f.inner =
      spread inside (omega arith) f.reads.0 f.inner (λ z. (lt.insides z f.reads.0).1 (f.rule, f.reads.1, u)) f.reads.3
      (only_inside kinds T k v w P Q (S p) (E p) (S n.inside) (S n.after) (E n.inside) (E n.after) (M p) lt ei ea ρ only f) in
      let zs : picked (λ z. bit (M z) m) b c ≡ marked T.rules m seen n.after f.outer =
      spread after (omega arith) f.reads.1 f.outer (λ z. (lt.afters z f.reads.1).1 (f.rule, f.reads.0, u)) f.reads.4
      (only_after kinds T k v w P Q (S p) (E p) (S n.inside) (S n.after) (E n.inside) (E n.after) (M p) lt ei ea ρ only f) in
      let t : bit (M p) m ≡ carries T.rules f.rule m =
      carried_is kinds T k v w P Q (S p) (E p) (S n.inside) (S n.after) (E n.inside) (E n.after) (M p) lt ei ea ρ only f m in
      let z : b + suc (c + y) ≡ p = omega arith in
      let list : picked (λ z. bit (M z) m) b s ≡ put (bit (M p) m) p (picked (λ z. bit (M z) m) (b + c) y ++ picked (λ z. bit (M z) m) b c) =
      ap (picked (λ z. bit (M z) m) b) es ∙ ap₂ (λ g o. put (bit (M g) m) g o) z (picked_split (λ z. bit (M z) m) b c y) in
      let body : put (bit (M p) m) p (picked (λ z. bit (M z) m) (b + c) y ++ picked (λ z. bit (M z) m) b c)
      ≡ put (carries T.rules f.rule m) p (marked T.rules m seen n.inside f.inner ++ marked T.rules m seen n.after f.outer) =
      λ j. put (t j) p (ys j ++ zs j) in
      list ∙ (body ∙ (sym (marked_take T.rules m seen p f.rule f.inner f.outer (Some n) e)
      ∙ (ap (marked T.rules m seen p) (sym f.core_is) ∙ marked_core T.rules m seen p ρ)))

  pub listed : Spans seen 0 top top → E top ≡ T.starts → (one : Single kinds T (run_at seen top))
      → picked (λ u. bit (M u) m) 0 top ≡ marked T.rules m seen top one.whole.reading
  listed spans start one =
      spread spans (omega arith) one.whole.state one.whole.reading
      (λ z. ap (λ w. bit w one.whole.state) start ∙ one.whole.starts) one.whole.reads
      (λ z q σ e x. (one.alone (record { state = q; reading = σ; starts = ap (λ w. bit w q) (sym start) ∙ e; reads = x })).1)
