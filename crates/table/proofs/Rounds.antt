-- Rounds of the empty rules, until nothing is new.
use Rattle.std.proofs.Common.{◌≡◌, ℕ, ◌+◌, ◌<◌, ◌≤◌, Bool, true, false, ◌&&◌, eqb, Option, sym, ap, ◌∙◌, subst, inl, inr, arith}
use lib.Bits.{bit_or}
use Rattle.std.proofs.lemmas.Bool.{or_cases, or_right, cases_eq, both_ways, and_from, eq-eqb}
use Rattle.record.specs.Run.{Run}
use Rattle.table.specs.Table.{Tab}
use Rattle.table.specs.Sets.{bit}
use Rattle.table.specs.Counting.{Sets, First, kind_of, Told, Grounded, Every, Base, Round, Settling, Below}
use Rattle.table.proofs.Bits.{bit_of_or, no_bit}
use Rattle.table.proofs.Sound.{Sound, begun, forked, parted}
use Rattle.table.proofs.Settling.{settled}

-- sets that grow, and are not both the same
pub more_states : (a b p q : ℕ) → (eqb a b && eqb p q) ≡ false → b ≤ a → q ≤ p → b + q < a + p
more_states a b p q e l m =
    elim (cases_eq a b) [
      | inr d ↦ omega arith
      | inl x ↦ elim (cases_eq p q) [
        | inr d ↦ omega arith
        | inl y ↦ absurd (both_ways _ e (and_from _ _ (eq-eqb a b x) (eq-eqb p q y)))
      ]
    ]

-- what is or'ed on and changes nothing was there
pub or_kept : (a b : ℕ) → bit_or a b ≡ a → (q : ℕ) → bit b q ≡ true → bit a q ≡ true
or_kept a b e q h = ap (λ z. bit z q) (sym e) ∙ (bit_of_or a b q ∙ or_right (bit a q) (bit b q) h)

abbrev pub pairset : ℕ → ℕ → Sets
pairset some many = record { some = bit some; many = bit many }

module _ {C : Type 0} (kinds : C → ℕ → Bool) (T : Tab C) where
  -- what sound sets tell is sound
  told_sound : (U : First → Type 0) (w : Run) (h i a g : Sets) → Below kinds T w i a → Sound kinds T w h → Told kinds T U (kind_of w) h i a g → Sound kinds T w g
  told_sound U w h i a g b s t =
      record {
        some_means = λ q e. let p = (t.somes q).0 e in let o = begun kinds T h i a w b s q p.0 p.2 in (o.0, o.1);
        many_means = λ q e. elim ((t.manys q).0 e) [
          | inl p ↦ forked kinds T h i a w b s q p.0 p.2
          | inr p ↦ parted kinds T h i a w b s q p.0 p.1 p.2 p.5 p.6
        ];
      }

  -- the sets so far are sound at each run of the kind for which the base is right
  abbrev pub Sounds : Sets → Sets → Type 0
  Sounds base h = (o : Option ℕ) (i a : Sets) → Base kinds T o i a base → (w : Run) → kind_of w ≡ o → Below kinds T w i a → Sound kinds T w h

  empty_sound : (w : Run) → Sound kinds T w (pairset 0 0)
  empty_sound w = record { some_means = λ q e. absurd (no_bit q e); many_means = λ q e. absurd (no_bit q e) }

  pub sounds_base : (base : Sets) → Sounds base base
  sounds_base base o i a x w e b =
      told_sound Grounded w (pairset 0 0) i a base b (empty_sound w) (subst (λ z. Told kinds T Grounded z (pairset 0 0) i a base) (sym e) (x (pairset 0 0)))

  -- what one round answers
  abbrev pub Rounded : Sets → Sets → Sets → Type 0
  Rounded base h g = (o : Option ℕ) (i a : Sets) → Base kinds T o i a base → Round kinds T o h i a g

  pub sounds_more : (base : Sets) (some many some' many' : ℕ) → Rounded base (pairset some many) (pairset some' many')
      → Sounds base (pairset some many) → Sounds base (pairset (bit_or some some') (bit_or many many'))
  sounds_more base some many some' many' round inv o i a x w e b =
      let s = inv o i a x w e b in
      let n = told_sound Every w (pairset some many) i a (pairset some' many') b s (subst (λ z. Round kinds T z (pairset some many) i a (pairset some' many')) (sym e) (round o i a x)) in
      record {
        some_means = λ q h. elim (or_cases (bit some q) (bit some' q) (sym (bit_of_or some some' q) ∙ h)) [ inl y ↦ s.some_means q y | inr y ↦ n.some_means q y ];
        many_means = λ q h. elim (or_cases (bit many q) (bit many' q) (sym (bit_of_or many many' q) ∙ h)) [ inl y ↦ s.many_means q y | inr y ↦ n.many_means q y ];
      }

  pub settled_all : (base : Sets) (some many some' many' : ℕ) → Rounded base (pairset some many) (pairset some' many') → Sounds base (pairset some many)
      → bit_or some some' ≡ some → bit_or many many' ≡ many
      → (o : Option ℕ) (i a : Sets) → Base kinds T o i a base → Settling kinds T o i a (pairset some many)
  settled_all base some many some' many' round inv x y o i a z w e b =
      let g = subst (λ z. Round kinds T z (pairset some many) i a (pairset some' many')) (sym e) (round o i a z) in
      settled kinds T w (pairset some many) i a b (inv o i a z w e b)
      (record {
        gains = λ q f p. or_kept some some' x q ((g.somes q).1 (f, tt, p));
        doubles = λ q f p. or_kept many many' y q ((g.manys q).1 (inl (f, tt, p)));
        splits = λ q f f' n p p'. or_kept many many' y q ((g.manys q).1 (inr (f, f', n, tt, tt, p, p')));
      })
