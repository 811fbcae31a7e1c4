-- The empty rules that lead on from live states, and the node rules in use.
use Rattle.std.proofs.Common.{◌≡◌, ℕ, zero, suc, Bool, true, false, ◌&&◌, eqb, ◌↔◌, List, [], ◌∷◌, sym, refl, ap, ◌∙◌, subst, inl, inr, arith}
use lib.Bits.{bit_or, bit_and}
use Rattle.std.proofs.lemmas.Bool.{eq-eqb, eqb-true, or_cases, or_left, and_parts, and_from, both_ways, false≢true}
use Rattle.table.specs.declared.rule.Rule.{Rule}
use Rattle.table.specs.declared.rule.Step.{Step}
use Rattle.table.specs.declared.rule.Step.TheVariants.{Empty, Node}
use Rattle.table.specs.Class.{Kind}
use Rattle.table.specs.Sets.{bit, Bit}
use Rattle.table.specs.Table.{Tab, At}
use Rattle.table.specs.Reading.{Skips}
use Rattle.table.specs.Counting.{takes_step, slips_step}
use Rattle.table.specs.Marks.{gives, carries}
use Rattle.table.specs.Listing.{Alive, comes, slides, Slides, Uses, adds_inside, adds_after}
use Rattle.table.proofs.Bits.{bit_of_or, bit_of_and}
use Rattle.table.proofs.Rules.{at_one}
use Rattle.table.proofs.Rounds.{or_kept}

carries_at : {C : Type 0} (xs : List (Rule C)) (n : ℕ) (x : Rule C) → At xs n x → (m : ℕ) → carries xs n m ≡ gives x.step m
carries_at [] n x at m = absurd (omega (arith, at.0))
carries_at {C} (y ∷ ys) zero x at m = ap (λ (z : Rule C). gives z.step m) at.1
carries_at (y ∷ ys) (suc n) x at m = carries_at ys n x (omega (arith, at.0), at.1) m

module _ {C : Type 0} (T : Tab C) (some live : ℕ → Bool) where
  abbrev pub SlidesBy : ℕ → ℕ → Type 0
  SlidesBy r t = (q : ℕ) × (Skips T r q t) × (live q ≡ true) × (some t ≡ true)

  there : (n f t : ℕ) (st : Step C) → At T.rules n (record { from = f; to = t; step = st }) → slips_step some t st ≡ true → live f ≡ true → SlidesBy n t
  there n f t Empty at e l = (f, at, l, e)
  there n f t (Node c s m) at e l = absurd (false≢true e)

  here : (n t : ℕ) (x : Rule C) → At T.rules n x → SlidesBy n t → (x.to ≡ t) × ((slips_step some x.to x.step && live x.from) ≡ true)
  here n t x at p =
      let z = at_one T.rules n x _ at p.1 in
      (ap (λ (y : Rule C). y.to) z, ap (λ (y : Rule C). slips_step some y.to y.step && live y.from) z ∙ and_from _ _ p.3 p.2)

  pub slides_taken : (n : ℕ) (x : Rule C) → At T.rules n x → (slips_step some x.to x.step && live x.from) ≡ true → (t : ℕ) → (eqb x.to t ≡ true) ↔ SlidesBy n t
  slides_taken n x at e t =
      let p = and_parts _ _ e in
      (λ b. subst (SlidesBy n) (eqb-true _ _ b) (there n x.from x.to x.step at p.0 p.1), λ s. eq-eqb _ _ (here n t x at s).0)

  pub slides_passed : (n : ℕ) (x : Rule C) → At T.rules n x → (slips_step some x.to x.step && live x.from) ≡ false → (t : ℕ) → SlidesBy n t → ⊥
  slides_passed n x at e t s = both_ways _ e (here n t x at s).1

module _ {C : Type 0} (T : Tab C) (some enter : ℕ) where
  -- the live states so far are right, and hold those that come in
  abbrev pub Living : ℕ → Type 0
  Living live = ((q : ℕ) → Bit live q → Alive T (bit some) (bit enter) q) × ((q : ℕ) → Bit enter q → Bit some q → Bit live q)

  pub living_none : Living (bit_and enter some)
  living_none = (
    λ q b. let p = and_parts _ _ (sym (bit_of_and enter some q) ∙ b) in comes p.0 p.1,
    λ q e s. bit_of_and enter some q ∙ and_from _ _ e s,
  )

  module _ (live found : ℕ) (slid : (t : ℕ) → Bit found t ↔ Slides T (bit some) (bit live) t) (inv : Living live) where
    pub living_more : Living (bit_or live found)
    living_more = (
      λ q b. elim (or_cases (bit live q) (bit found q) (sym (bit_of_or live found q) ∙ b)) [
        | inl x ↦ inv.0 q x
        | inr x ↦ let s = (slid q).0 x in slides s.0 (inv.0 s.1 s.3) s.2 s.4
      ],
      λ q e s. bit_of_or live found q ∙ or_left (bit live q) (bit found q) (inv.1 q e s),
    )

    complete : bit_or live found ≡ live → (q : ℕ) → Alive T (bit some) (bit enter) q → Bit live q
    complete same q (comes e s) = inv.1 q e s
    complete same q (slides {q = p} r al k s) = or_kept live found same q ((slid q).1 (r, p, k, complete same p al, s))

    pub living_all : bit_or live found ≡ live → (q : ℕ) → Bit live q ↔ Alive T (bit some) (bit enter) q
    living_all same q = (inv.0 q, complete same q)

module _ {C : Type 0} (kinds : C → ℕ → Bool) (T : Tab C) (k : ℕ) (live i a : ℕ → Bool) where
  abbrev pub InsideBy : ℕ → ℕ → Type 0
  InsideBy r s = (t : ℕ) × (Uses kinds T k live i a r s t)

  abbrev pub AfterBy : ℕ → ℕ → Type 0
  AfterBy r t = (s : ℕ) × (Uses kinds T k live i a r s t)

  abbrev pub MarkedBy : ℕ → ℕ → Type 0
  MarkedBy r m = (s t : ℕ) × (Uses kinds T k live i a r s t) × (carries T.rules r m ≡ true)

  -- rule n is in use, or not
  abbrev pub in_use : Rule C → Bool
  in_use x = takes_step kinds k i a x.to x.step && live x.from

  uses_there : (n f t : ℕ) (st : Step C) → Kind k → At T.rules n (record { from = f; to = t; step = st }) → takes_step kinds k i a t st ≡ true → live f ≡ true
      → (s u : ℕ) → adds_inside st s ≡ true → adds_after t st u ≡ true → Uses kinds T k live i a n s u
  uses_there n f t Empty small at e l s u x y = absurd (false≢true e)
  uses_there n f t (Node c v m) small at e l s u x y =
      let p = and_parts _ _ e in
      let q = and_parts _ _ p.1 in
      subst (λ z. Uses kinds T k live i a n z u) (eqb-true v s x) (subst (λ z. Uses kinds T k live i a n v z) (eqb-true t u y)
      (f, record { class = c; marks = m; rule = at; kind = small; has = q.1 }, l, p.0, q.0))

  uses_here : (n s t : ℕ) (x : Rule C) → At T.rules n x → Uses kinds T k live i a n s t
      → (in_use x ≡ true) × (adds_inside x.step s ≡ true) × (adds_after x.to x.step t ≡ true)
  uses_here n s t x at u =
      let z = at_one T.rules n x _ at u.1.rule in (
        ap in_use z ∙ and_from _ _ (and_from _ _ u.3 (and_from _ _ u.4 u.1.has)) u.2,
        ap (λ (y : Rule C). adds_inside y.step s) z ∙ eq-eqb s s refl,
        ap (λ (y : Rule C). adds_after y.to y.step t) z ∙ eq-eqb t t refl,
      )

  -- a rule in use has an inside state
  some_inside : (t : ℕ) (st : Step C) → takes_step kinds k i a t st ≡ true → (s : ℕ) × (adds_inside st s ≡ true) × (adds_after t st t ≡ true)
  some_inside t Empty e = absurd (false≢true e)
  some_inside t (Node c s m) e = (s, eq-eqb s s refl, eq-eqb t t refl)

  module _ (n : ℕ) (x : Rule C) (small : Kind k) (at : At T.rules n x) (e : in_use x ≡ true) where
    both : (s u : ℕ) → adds_inside x.step s ≡ true → adds_after x.to x.step u ≡ true → Uses kinds T k live i a n s u
    both = let p = and_parts _ _ e in uses_there n x.from x.to x.step small at p.0 p.1

    one : (s : ℕ) × (adds_inside x.step s ≡ true) × (adds_after x.to x.step x.to ≡ true)
    one = some_inside x.to x.step (and_parts _ _ e).0

    pub inside_taken : (s : ℕ) → (adds_inside x.step s ≡ true) ↔ InsideBy n s
    inside_taken s = (λ b. (x.to, both s x.to b one.2), λ u. (uses_here n s u.0 x at u.1).1)

    pub after_taken : (t : ℕ) → (adds_after x.to x.step t ≡ true) ↔ AfterBy n t
    after_taken t = (λ b. (one.0, both one.0 t one.1 b), λ u. (uses_here n u.0 t x at u.1).2)

    pub marked_taken : (m : ℕ) → (gives x.step m ≡ true) ↔ MarkedBy n m
    marked_taken m = (
      λ b. (one.0, x.to, both one.0 x.to one.1 one.2, carries_at T.rules n x at m ∙ b),
      λ u. sym (carries_at T.rules n x at m) ∙ u.3,
    )

  pub unused : (n s t : ℕ) (x : Rule C) → At T.rules n x → in_use x ≡ false → Uses kinds T k live i a n s t → ⊥
  unused n s t x at e u = both_ways _ e (uses_here n s t x at u).0
