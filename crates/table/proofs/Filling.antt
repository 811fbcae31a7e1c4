-- Right sets, place by place.
use Rattle.std.proofs.Common.{◌≡◌, ℕ, ◌+◌, ◌*◌, ◌<◌, Bool, true, not, eqb, ◌↔◌, List, length, get_or, set, Some, None, Option, sym, refl, ap, ◌∙◌, subst, inl, inr, arith}
use lib.Bits.{bit_and}
use Rattle.std.proofs.lemmas.List.{get_or-set_same, get_or-set_other, length-set}
use Rattle.std.proofs.lemmas.Bool.{cases_eq, eqb-false, ne_eqb, not-true, not_from_false, and_parts, and_from}
use Rattle.record.specs.declared.run.Node.{Node}
use Rattle.record.specs.Run.{Run, nil, node, Lower, run_at}
use Rattle.record.proofs.Places.{run_none, run_some}
use Rattle.table.specs.Limits.{per_place}
use Rattle.table.specs.Sets.{bit}
use Rattle.table.specs.Table.{Tab}
use Rattle.table.proofs.Bits.{bit_of_and, no_bits, some_bit}
use Rattle.table.specs.Reading.{stop, skip, take, Fits}
use Rattle.table.specs.Counting.{Sets, Once, Exact, Settling, Leads}
use Rattle.table.specs.Scratch.{number_at, NoSkips, ExactSome, Fitted, sets_at, Filled}

module _ {C : Type 0} (kinds : C → ℕ → Bool) (T : Tab C) where
  -- without empty rules a reading of the empty run stops
  end_once : NoSkips T → (q : ℕ) → (bit T.finals q ≡ true) ↔ Once kinds T q nil
  end_once plain q = (λ b. (stop, b), back)
    where
      back : Once kinds T q nil → bit T.finals q ≡ true
      back (stop, x) = x
      back (skip r ρ, x) = absurd (plain r q x.0 x.1)
      back (take r ρ σ, x) = absurd x

  -- and one of a node takes it
  node_once : NoSkips T → (k : ℕ) (v w : Run) (i a : ℕ → Bool) → ExactSome kinds T v i → ExactSome kinds T w a
      → (q : ℕ) → Leads kinds T k i a q ↔ Once kinds T q (node k v w)
  node_once plain k v w i a ei ea q =
      (λ l. let x = (ei l.1).0 l.4 in let y = (ea l.2).0 l.5 in (take l.0 x.0 y.0, (l.1, l.2, l.3, x.1, y.1)), back)
    where
      back : Once kinds T q (node k v w) → Leads kinds T k i a q
      back (stop, x) = absurd x
      back (skip r ρ, x) = absurd (plain r q x.0 x.1)
      back (take r ρ σ, x) = (r, x.0, x.1, x.2, (ei x.0).1 (ρ, x.3), (ea x.1).1 (σ, x.4))

  module _ (seen : ℕ → Option Node) (lower : Lower seen) where
    pub fits_none : NoSkips T → (p : ℕ) → seen p ≡ None → ExactSome kinds T (run_at seen p) (bit T.finals)
    fits_none plain p e = subst (λ w. ExactSome kinds T w (bit T.finals)) (sym (run_none seen lower p e)) (end_once plain)

    pub fits_some : NoSkips T → (p : ℕ) (n : Node) (xs : List ℕ) → seen p ≡ Some n → Fitted kinds T seen xs p → (i a f : ℕ → Bool)
        → i ≡ bit (get_or xs (per_place * n.inside) 0) → a ≡ bit (get_or xs (per_place * n.after) 0)
        → ((q : ℕ) → (f q ≡ true) ↔ Leads kinds T n.kind i a q) → ExactSome kinds T (run_at seen p) f
    fits_some plain p n xs e fitted i a f ei ea leads =
        let l = lower p n e in
        let v = run_at seen n.inside in
        let w = run_at seen n.after in
        let once = node_once plain n.kind v w i a
        (subst (ExactSome kinds T v) (sym ei) (fitted n.inside l.0)) (subst (ExactSome kinds T w) (sym ea) (fitted n.after l.1)) in
        subst (λ z. ExactSome kinds T z f) (sym (run_some seen lower p n e))
        (λ q. (λ b. (once q).0 ((leads q).0 b), λ o. (leads q).1 ((once q).1 o)))

    fitted_set : (xs : List ℕ) (n s : ℕ) → per_place * n < length xs → Fitted kinds T seen xs n
        → ExactSome kinds T (run_at seen n) (bit s) → Fitted kinds T seen (set xs (per_place * n) s) (n + 1)
    fitted_set xs n s room fitted exact p h =
        elim (cases_eq p n) [
          | inl e ↦
              let x : get_or (set xs (per_place * n) s) (per_place * n) 0 ≡ s = get_or-set_same xs (per_place * n) s 0 (omega arith) in
              subst (λ z. ExactSome kinds T (run_at seen z) (bit (get_or (set xs (per_place * n) s) (per_place * z) 0))) (sym e)
              (subst (λ z. ExactSome kinds T (run_at seen n) (bit z)) (sym x) exact)
          | inr d ↦
              let x : get_or (set xs (per_place * n) s) (per_place * p) 0 ≡ get_or xs (per_place * p) 0 = get_or-set_other xs (per_place * n) (per_place * p) s 0 (omega arith) in
              subst (λ z. ExactSome kinds T (run_at seen p) (bit z)) (sym x) (fitted p (omega arith))
        ]

    pub fitted_more : (xs ys : List ℕ) (n s : ℕ) → number_at n 0 < length xs → ys ≡ set xs (number_at n 0) s → Fitted kinds T seen xs n
        → ExactSome kinds T (run_at seen n) (bit s) → Fitted kinds T seen ys (n + 1)
    fitted_more xs ys n s room is fitted exact = subst (λ z. Fitted kinds T seen z (n + 1)) (sym is) (fitted_set xs n s room fitted exact)

    pub exact_none : (p : ℕ) (i a g : Sets) → seen p ≡ None → Settling kinds T None i a g → Exact kinds T (run_at seen p) g
    exact_none p i a g e s = subst (λ w. Exact kinds T w g) (sym (run_none seen lower p e)) (s nil refl tt)

    pub exact_some : (p : ℕ) (n : Node) (i a g : Sets) (xs : List ℕ) → seen p ≡ Some n → Filled kinds T seen xs p
        → sets_at xs n.inside ≡ i → sets_at xs n.after ≡ a → Settling kinds T (Some n.kind) i a g → Exact kinds T (run_at seen p) g
    exact_some p n i a g xs e filled x y s =
        let l = lower p n e in
        subst (λ w. Exact kinds T w g) (sym (run_some seen lower p n e))
        (s (node n.kind (run_at seen n.inside) (run_at seen n.after)) refl (
          subst (Exact kinds T (run_at seen n.inside)) x (filled n.inside l.0),
          subst (Exact kinds T (run_at seen n.after)) y (filled n.after l.1),
        ))

  -- sets that agree tell the same
  exact_agree : (w : Run) (S R : Sets) → S.some ≡ R.some → S.many ≡ R.many → Exact kinds T w S → Exact kinds T w R
  exact_agree w S R x y = subst (Exact kinds T w) (λ j. record { some = x j; many = y j })

  filled_set : (seen : ℕ → Option Node) (xs : List ℕ) (n s m : ℕ) → per_place * n + 1 < length xs → Filled kinds T seen xs n
      → Exact kinds T (run_at seen n) (record { some = bit s; many = bit m }) → Filled kinds T seen (set (set xs (per_place * n) s) (per_place * n + 1) m) (n + 1)
  filled_set seen xs n s m room filled exact p h =
      let a = per_place * n in
      let ys = set (set xs a s) (a + 1) m in
      elim (cases_eq p n) [
        | inl e ↦
            let x : get_or ys a 0 ≡ s = get_or-set_other (set xs a s) (a + 1) a m 0 (omega arith) ∙ get_or-set_same xs a s 0 (omega arith) in
            let y : get_or ys (a + 1) 0 ≡ m = get_or-set_same (set xs a s) (a + 1) m 0 (omega (arith, length-set xs a s)) in
            subst (λ k. Exact kinds T (run_at seen k) (sets_at ys k)) (sym e) (exact_agree (run_at seen n) _ (sets_at ys n) (ap bit (sym x)) (ap bit (sym y)) exact)
        | inr d ↦
            let b = per_place * p in
            let x : get_or ys b 0 ≡ get_or xs b 0 = get_or-set_other (set xs a s) (a + 1) b m 0 (omega arith) ∙ get_or-set_other xs a b s 0 (omega arith) in
            let y : get_or ys (b + 1) 0 ≡ get_or xs (b + 1) 0 = get_or-set_other (set xs a s) (a + 1) (b + 1) m 0 (omega arith) ∙ get_or-set_other xs a (b + 1) s 0 (omega arith) in
            exact_agree (run_at seen p) (sets_at xs p) (sets_at ys p) (ap bit (sym x)) (ap bit (sym y)) (filled p (omega arith))
      ]

  pub filled_more : (seen : ℕ → Option Node) (xs ys zs : List ℕ) (n s m : ℕ) → number_at n 1 < length xs → ys ≡ set xs (number_at n 0) s → zs ≡ set ys (number_at n 1) m
      → Filled kinds T seen xs n → Exact kinds T (run_at seen n) (record { some = bit s; many = bit m }) → Filled kinds T seen zs (n + 1)
  filled_more seen xs ys zs n s m room is is' filled exact =
      subst (λ z. Filled kinds T seen z (n + 1)) (sym (is' ∙ ap (λ z. set z (number_at n 1) m) is)) (filled_set seen xs n s m room filled exact)

-- a start state with a reading, by the sets
pub fits_answered : {C : Type 0} (kinds : C → ℕ → Bool) (T : Tab C) (w : Run) (m : ℕ) → ExactSome kinds T w (bit m)
    → (not (eqb (bit_and T.starts m) 0) ≡ true) ↔ Fits kinds T w
fits_answered kinds T w m exact = (
  λ e.
      let b = some_bit (bit_and T.starts m) (eqb-false _ 0 (not-true _ e)) in
      let p = and_parts _ _ (sym (bit_of_and T.starts m b.0) ∙ b.1) in
      let o = (exact b.0).0 p.1 in
      record { state = b.0; reading = o.0; starts = p.0; reads = o.1 },
  λ f.
      let p = and_from _ _ f.starts ((exact f.state).1 (f.reading, f.reads)) in
      not_from_false _ (ne_eqb _ 0 (λ z. no_bits _ z f.state (bit_of_and T.starts m f.state ∙ p))),
)
