-- The first steps that rule n gives.
use Rattle.std.proofs.Common.{◌≡◌, ℕ, ◌+◌, ◌<◌, ◌≤◌, Bool, true, false, ◌⊎◌, length, Some, None, Option, sym, refl, ap, ◌∙◌, subst, inl, inr, arith}
use Rattle.std.proofs.lemmas.Bool.{or_cases, or_left, or_right, and_parts, and_from, cases_eq, both_ways, false≢true}
use Rattle.table.specs.declared.rule.Rule.{Rule}
use Rattle.table.specs.declared.rule.Step.{Step}
use Rattle.table.specs.declared.rule.Step.TheVariants.{Empty, Node}
use Rattle.table.specs.Class.{Kind}
use Rattle.table.specs.Sets.{bit}
use Rattle.table.specs.Table.{Tab, At}
use Rattle.table.specs.Counting.{Sets, First, ends, slips, enters, Opens, Forks, Any, Pair, Told, Grounded, Every, Round, Grows, takes_step, touches_step, slips_step}
use Rattle.table.proofs.Rules.{at_one}
use Rattle.table.proofs.Gathering.{Tell, tell_passed, tell_grown}

-- by the final states, or by one of the first n node rules
abbrev pub Entering : ℕ → First → Type 0
Entering n ends = Unit {0}
Entering n (slips r) = ⊥
Entering n (enters r) = r < n

-- by no empty rule, or by one of the first n
abbrev pub Slipping : ℕ → First → Type 0
Slipping n ends = Unit {0}
Slipping n (slips r) = r < n
Slipping n (enters r) = Unit {0}

module _ {C : Type 0} (kinds : C → ℕ → Bool) (T : Tab C) (h i a : Sets) where
  pub forks_open : (o : Option ℕ) (q : ℕ) (x : First) → Forks kinds T o h i a q x → Opens kinds T o h i a q x
  forks_open o q ends f = absurd f
  forks_open o q (slips r) f = (f.0, f.1, f.2)
  forks_open None q (enters r) f = absurd f
  forks_open (Some k) q (enters r) f = (f.0, f.1, f.2, f.3, f.4)

  -- what the sets tell of the first steps of U
  abbrev pub Telling : Option ℕ → (First → Type 0) → Sets → Type 0
  Telling o U S = Tell (Opens kinds T o h i a) (Forks kinds T o h i a) (forks_open o) U S

  pub told : (o : Option ℕ) (U : First → Type 0) (S : Sets) → Telling o U S → Told kinds T U o h i a S
  told o U S t = record { somes = t.anys; manys = t.pairs }

  telling : (o : Option ℕ) (U : First → Type 0) (S : Sets) → Told kinds T U o h i a S → Telling o U S
  telling o U S t = record { anys = t.somes; pairs = t.manys }

  -- the empty run: final states
  pub end_base : (S : Sets) → ((q : ℕ) → S.some q ≡ bit T.finals q) → ((q : ℕ) → S.many q ≡ true → ⊥) → Told kinds T Grounded None h i a S
  end_base S e n =
      record {
        somes = λ q. (λ x. (ends, tt, sym (e q) ∙ x), λ p. e q ∙ any q p);
        manys = λ q. (λ x. absurd (n q x), λ p. absurd (pair q p));
      }
    where
      only : (q : ℕ) (x : First) → Grounded x → Opens kinds T None h i a q x → x ≡ ends
      only q ends g o = refl
      only q (slips r) g o = absurd g
      only q (enters r) g o = absurd o

      any : (q : ℕ) → Any Grounded (Opens kinds T None h i a q) → bit T.finals q ≡ true
      any q p = subst (Opens kinds T None h i a q) (only q p.0 p.1 p.2) p.2

      none : (q : ℕ) (x : First) → Grounded x → Forks kinds T None h i a q x → ⊥
      none q ends g f = f
      none q (slips r) g f = g
      none q (enters r) g f = f

      pair : (q : ℕ) → Pair Grounded (Opens kinds T None h i a q) (Forks kinds T None h i a q) → ⊥
      pair q (inl p) = none q p.0 p.1 p.2
      pair q (inr p) = p.2 (only q p.0 p.3 p.5 ∙ sym (only q p.1 p.4 p.6))

  -- no rule yet
  pub entering_none : (k : ℕ) (S : Sets) → ((q : ℕ) → S.some q ≡ true → ⊥) → ((q : ℕ) → S.many q ≡ true → ⊥) → Telling (Some k) (Entering 0) S
  entering_none k S e f =
      record {
        anys = λ q. (λ x. absurd (e q x), λ p. absurd (none q p.0 p.1 p.2));
        pairs = λ q. (λ x. absurd (f q x), λ p. absurd (pair q p));
      }
    where
      none : (q : ℕ) (x : First) → Entering 0 x → Opens kinds T (Some k) h i a q x → ⊥
      none q ends u o = o
      none q (slips r) u o = u
      none q (enters r) u o = absurd (omega arith)

      pair : (q : ℕ) → Pair (Entering 0) (Opens kinds T (Some k) h i a q) (Forks kinds T (Some k) h i a q) → ⊥
      pair q (inl p) = none q p.0 p.1 (forks_open (Some k) q p.0 p.2)
      pair q (inr p) = none q p.0 p.3 p.5

  entering_more : (n : ℕ) (x : First) → Entering n x → Entering (n + 1) x
  entering_more n ends u = tt
  entering_more n (slips r) u = u
  entering_more n (enters r) u = omega arith

  slipping_more : (n : ℕ) (x : First) → Slipping n x → Slipping (n + 1) x
  slipping_more n ends u = tt
  slipping_more n (slips r) u = omega arith
  slipping_more n (enters r) u = tt

  -- rule n as it stands from q
  pub at_from : (n q : ℕ) (x : Rule C) → At T.rules n x → x.from ≡ q → At T.rules n (record { from = q; to = x.to; step = x.step })
  at_from n q x at e = subst (λ (z : Rule C). At T.rules n z) (λ j. record { from = e j; to = x.to; step = x.step }) at

  is_rule : (n r : ℕ) (x y : Rule C) → At T.rules n x → r ≡ n → At T.rules r y → x ≡ y
  is_rule n r x y at e b = at_one T.rules n x y at (subst (λ z. At T.rules z y) e b)

  pub taken : (k n q t : ℕ) (st : Step C) → Kind k → At T.rules n (record { from = q; to = t; step = st })
      → takes_step kinds k i.some a.some t st ≡ true → Opens kinds T (Some k) h i a q (enters n)
  taken k n q t Empty small at e = absurd (false≢true e)
  taken k n q t (Node c s m) small at e =
      let p = and_parts _ _ e in
      let r = and_parts _ _ p.1 in
      (s, t, record { class = c; marks = m; rule = at; kind = small; has = r.1 }, p.0, r.0)

  touched : (k n q t : ℕ) (st : Step C) → Kind k → At T.rules n (record { from = q; to = t; step = st })
      → takes_step kinds k i.some a.some t st ≡ true → touches_step i.many a.many t st ≡ true → Forks kinds T (Some k) h i a q (enters n)
  touched k n q t Empty small at e f = absurd (false≢true e)
  touched k n q t (Node c s m) small at e f =
      let p = and_parts _ _ e in
      let r = and_parts _ _ p.1 in
      (s, t, record { class = c; marks = m; rule = at; kind = small; has = r.1 }, p.0, r.0, or_cases _ _ f)

  -- what rule n takes, it takes from its own state by its own tests
  pub takes_here : (k n q : ℕ) (x : Rule C) → At T.rules n x → Opens kinds T (Some k) h i a q (enters n)
      → (x.from ≡ q) × (takes_step kinds k i.some a.some x.to x.step ≡ true)
  takes_here k n q x at o =
      let z = is_rule n n x _ at refl o.2.rule in (
        ap (λ (y : Rule C). y.from) z,
        ap (λ (y : Rule C). takes_step kinds k i.some a.some y.to y.step) z ∙ and_from _ _ o.3 (and_from _ _ o.4 o.2.has),
      )

  touches_here : (k n q : ℕ) (x : Rule C) → At T.rules n x → Forks kinds T (Some k) h i a q (enters n) → touches_step i.many a.many x.to x.step ≡ true
  touches_here k n q x at o =
      let z = is_rule n n x _ at refl o.2.rule in
      ap (λ (y : Rule C). touches_step i.many a.many y.to y.step) z ∙ elim o.5 [ inl m ↦ or_left _ _ m | inr m ↦ or_right _ _ m ]

  entering_last : (k n q : ℕ) (y : First) → Entering (n + 1) y → Opens kinds T (Some k) h i a q y → Entering n y ⊎ (y ≡ enters n)
  entering_last k n q ends u o = inl tt
  entering_last k n q (slips r) u o = absurd u
  entering_last k n q (enters r) u o = elim (cases_eq r n) [ inl e ↦ inr (ap enters e) | inr d ↦ inl (omega arith) ]

  pub entering_passed : (k n : ℕ) (x : Rule C) → At T.rules n x → takes_step kinds k i.some a.some x.to x.step ≡ false
      → (S : Sets) → Telling (Some k) (Entering n) S → Telling (Some k) (Entering (n + 1)) S
  entering_passed k n x at e =
      tell_passed (Opens kinds T (Some k) h i a) (Forks kinds T (Some k) h i a) (forks_open (Some k)) (Entering n) (Entering (n + 1)) (entering_more n)
      (λ q y u o. elim (entering_last k n q y u o) [
        | inl v ↦ v
        | inr z ↦ absurd (both_ways _ e (takes_here k n q x at (subst (Opens kinds T (Some k) h i a q) z o)).1)
      ])

  pub entering_taken : (k n : ℕ) → Kind k → (x : Rule C) → At T.rules n x → takes_step kinds k i.some a.some x.to x.step ≡ true
      → (S R : Sets) → Grows x.from (touches_step i.many a.many x.to x.step) S R
      → Telling (Some k) (Entering n) S → Telling (Some k) (Entering (n + 1)) R
  entering_taken k n small x at e =
      tell_grown (Opens kinds T (Some k) h i a) (Forks kinds T (Some k) h i a) (forks_open (Some k)) (Entering n) (Entering (n + 1)) (entering_more n)
      x.from (enters n) (omega arith) (λ u. omega arith)
      (λ q y u o. elim (entering_last k n q y u o) [
        | inl v ↦ inl v
        | inr z ↦ inr (z, (takes_here k n q x at (subst (Opens kinds T (Some k) h i a q) z o)).0)
      ])
      (taken k n x.from x.to x.step small (at_from n x.from x at refl) e)
      (touches_step i.many a.many x.to x.step)
      (touched k n x.from x.to x.step small (at_from n x.from x at refl) e, touches_here k n x.from x at)

  pub entering_all : (k n : ℕ) (S : Sets) → length T.rules ≤ n → Telling (Some k) (Entering n) S → Told kinds T Grounded (Some k) h i a S
  entering_all k n S all t =
      told (Some k) Grounded S
      (tell_passed (Opens kinds T (Some k) h i a) (Forks kinds T (Some k) h i a) (forks_open (Some k)) (Entering n) Grounded more last S t)
    where
      more : (y : First) → Entering n y → Grounded y
      more ends u = tt
      more (slips r) u = u
      more (enters r) u = tt

      last : (q : ℕ) (y : First) → Grounded y → Opens kinds T (Some k) h i a q y → Entering n y
      last q ends u o = tt
      last q (slips r) u o = u
      last q (enters r) u o = omega (arith, o.2.rule.0)

  -- the empty rules, from the base on
  pub slipping_none : (o : Option ℕ) (S : Sets) → Told kinds T Grounded o h i a S → Telling o (Slipping 0) S
  slipping_none o S t =
      tell_passed (Opens kinds T o h i a) (Forks kinds T o h i a) (forks_open o) Grounded (Slipping 0) more last S (telling o Grounded S t)
    where
      more : (y : First) → Grounded y → Slipping 0 y
      more ends u = tt
      more (slips r) u = absurd u
      more (enters r) u = tt

      last : (q : ℕ) (y : First) → Slipping 0 y → Opens kinds T o h i a q y → Grounded y
      last q ends u p = tt
      last q (slips r) u p = omega arith
      last q (enters r) u p = tt

  slipping_last : (n : ℕ) (y : First) → Slipping (n + 1) y → Slipping n y ⊎ (y ≡ slips n)
  slipping_last n ends u = inl tt
  slipping_last n (slips r) u = elim (cases_eq r n) [ inl e ↦ inr (ap slips e) | inr d ↦ inl (omega arith) ]
  slipping_last n (enters r) u = inl tt

  slipped : (o : Option ℕ) (n q t : ℕ) (st : Step C) → At T.rules n (record { from = q; to = t; step = st })
      → slips_step h.some t st ≡ true → Opens kinds T o h i a q (slips n)
  slipped o n q t Empty at e = (t, at, e)
  slipped o n q t (Node c s m) at e = absurd (false≢true e)

  slipped_twice : (o : Option ℕ) (n q t : ℕ) (st : Step C) → At T.rules n (record { from = q; to = t; step = st })
      → slips_step h.some t st ≡ true → h.many t ≡ true → Forks kinds T o h i a q (slips n)
  slipped_twice o n q t Empty at e f = (t, at, e, f)
  slipped_twice o n q t (Node c s m) at e f = absurd (false≢true e)

  slips_here : (o : Option ℕ) (n q : ℕ) (x : Rule C) → At T.rules n x → Opens kinds T o h i a q (slips n)
      → (x.from ≡ q) × (slips_step h.some x.to x.step ≡ true)
  slips_here o n q x at p =
      let z = is_rule n n x _ at refl p.1 in
      (ap (λ (y : Rule C). y.from) z, ap (λ (y : Rule C). slips_step h.some y.to y.step) z ∙ p.2)

  slips_twice_here : (o : Option ℕ) (n q : ℕ) (x : Rule C) → At T.rules n x → Forks kinds T o h i a q (slips n) → h.many x.to ≡ true
  slips_twice_here o n q x at p = ap (λ (y : Rule C). h.many y.to) (is_rule n n x _ at refl p.1) ∙ p.3

  pub slipping_passed : (o : Option ℕ) (n : ℕ) (x : Rule C) → At T.rules n x → slips_step h.some x.to x.step ≡ false
      → (S : Sets) → Telling o (Slipping n) S → Telling o (Slipping (n + 1)) S
  slipping_passed o n x at e =
      tell_passed (Opens kinds T o h i a) (Forks kinds T o h i a) (forks_open o) (Slipping n) (Slipping (n + 1)) (slipping_more n)
      (λ q y u p. elim (slipping_last n y u) [
        | inl v ↦ v
        | inr z ↦ absurd (both_ways _ e (slips_here o n q x at (subst (Opens kinds T o h i a q) z p)).1)
      ])

  pub slipping_taken : (o : Option ℕ) (n : ℕ) (x : Rule C) → At T.rules n x → slips_step h.some x.to x.step ≡ true
      → (S R : Sets) → Grows x.from (h.many x.to) S R → Telling o (Slipping n) S → Telling o (Slipping (n + 1)) R
  slipping_taken o n x at e =
      tell_grown (Opens kinds T o h i a) (Forks kinds T o h i a) (forks_open o) (Slipping n) (Slipping (n + 1)) (slipping_more n)
      x.from (slips n) (omega arith) (λ u. omega arith)
      (λ q y u p. elim (slipping_last n y u) [
        | inl v ↦ inl v
        | inr z ↦ inr (z, (slips_here o n q x at (subst (Opens kinds T o h i a q) z p)).0)
      ])
      (slipped o n x.from x.to x.step (at_from n x.from x at refl) e)
      (h.many x.to)
      (slipped_twice o n x.from x.to x.step (at_from n x.from x at refl) e, slips_twice_here o n x.from x at)

  pub slipping_all : (o : Option ℕ) (n : ℕ) (S : Sets) → length T.rules ≤ n → Telling o (Slipping n) S → Round kinds T o h i a S
  slipping_all o n S all t =
      told o Every S (tell_passed (Opens kinds T o h i a) (Forks kinds T o h i a) (forks_open o) (Slipping n) Every (λ y u. tt) last S t)
    where
      last : (q : ℕ) (y : First) → Every y → Opens kinds T o h i a q y → Slipping n y
      last q ends u p = tt
      last q (slips r) u p = omega (arith, p.1.0)
      last q (enters r) u p = tt
