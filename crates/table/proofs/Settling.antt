-- Sets that are sound, and to which nothing can be added, are exact.
use Rattle.std.proofs.Common.{◌≡◌, ℕ, Bool, true, ◌⊎◌, sym, refl, subst, ap₂, inl, inr}
use native.Mathlib.Decide.{ℕ_discrete}
use Rattle.record.specs.Run.{Run, nil, node}
use Rattle.table.specs.Table.{Tab}
use Rattle.table.specs.Reading.{Reading, stop, skip, take, Skips, Reads, same_reading}
use Rattle.table.specs.Counting.{Sets, First, slips, enters, kind_of, Twice, Once, Opens, Forks, Exact, Below}
use Rattle.table.proofs.Rules.{skips_one, takes_inside, takes_after}
use Rattle.table.proofs.Apart.{first, ends_slips, slips_ends, slips_enters, enters_slips, slips_rule, enters_rule}
use Rattle.table.proofs.Sound.{Sound}

-- nothing more is to be gained
pub record Shut {C : Type 0} (kinds : C → ℕ → Bool) (T : Tab C) (w : Run) (h i a : Sets) : Type 0 where
  pub gains : (q : ℕ) (x : First) → Opens kinds T (kind_of w) h i a q x → h.some q ≡ true
  pub doubles : (q : ℕ) (x : First) → Forks kinds T (kind_of w) h i a q x → h.many q ≡ true
  pub splits : (q : ℕ) (x y : First) → (x ≡ y → ⊥) → Opens kinds T (kind_of w) h i a q x → Opens kinds T (kind_of w) h i a q y → h.many q ≡ true

module _ {C : Type 0} (kinds : C → ℕ → Bool) (T : Tab C) where
  -- the same, or two that differ
  same_or_twice : (q : ℕ) (w : Run) (ρ σ : Reading) → Reads kinds T q w ρ → Reads kinds T q w σ → (ρ ≡ σ) ⊎ Twice kinds T q w
  same_or_twice q w ρ σ x y =
      elim (same_reading ℕ_discrete ρ σ) [ yes e ↦ inl e | no n ↦ inr (record { one = ρ; other = σ; one_reads = x; other_reads = y; differ = n }) ]

  module _ (h i a : Sets) where
    -- the first step of a reading is open
    opened : (ρ : Reading) (w : Run) → Below kinds T w i a → Shut kinds T w h i a → (q : ℕ) → Reads kinds T q w ρ → Opens kinds T (kind_of w) h i a q (first ρ)
    opened stop nil b s q x = x
    opened stop (node k v w) b s q x = absurd x
    opened (skip r ρ) nil b s q x = (x.0, x.1, s.gains x.0 (first ρ) (opened ρ nil b s x.0 x.2))
    opened (skip r ρ) (node k v w) b s q x = (x.0, x.1, s.gains x.0 (first ρ) (opened ρ (node k v w) b s x.0 x.2))
    opened (take r ρ σ) nil b s q x = absurd x
    opened (take r ρ σ) (node k v w) b s q x = (x.0, x.1, x.2, (b.0.somes x.0).1 (ρ, x.3), (b.1.somes x.1).1 (σ, x.4))

    some_all : (w : Run) → Below kinds T w i a → Shut kinds T w h i a → (q : ℕ) → Once kinds T q w → h.some q ≡ true
    some_all w b s q x = s.gains q (first x.0) (opened x.0 w b s q x.1)

    -- readings of one state with first steps that differ
    split : (ρ σ : Reading) (w : Run) → Below kinds T w i a → Shut kinds T w h i a → (q : ℕ)
        → (first ρ ≡ first σ → ⊥) → Reads kinds T q w ρ → Reads kinds T q w σ → h.many q ≡ true
    split ρ σ w b s q n x y = s.splits q (first ρ) (first σ) n (opened ρ w b s q x) (opened σ w b s q y)

    two_takes : (r : ℕ) (ρ σ ρ' σ' : Reading) (k : ℕ) (v w : Run) → Below kinds T (node k v w) i a → Shut kinds T (node k v w) h i a → (q : ℕ)
        → Reads kinds T q (node k v w) (take r ρ σ) → Reads kinds T q (node k v w) (take r ρ' σ')
        → (take r ρ σ ≡ take r ρ' σ') ⊎ (h.many q ≡ true)
    two_takes r ρ σ ρ' σ' k v w b s q x y =
        let in' : Reads kinds T x.0 v ρ' = subst (λ z. Reads kinds T z v ρ') (takes_inside kinds T r q k y.0 y.1 x.0 x.1 y.2 x.2) y.3 in
        let to' : Reads kinds T x.1 w σ' = subst (λ z. Reads kinds T z w σ') (takes_after kinds T r q k y.0 y.1 x.0 x.1 y.2 x.2) y.4 in
        let l = (b.0.somes x.0).1 (ρ, x.3) in
        let m = (b.1.somes x.1).1 (σ, x.4) in
        elim (same_or_twice x.0 v ρ ρ' x.3 in') [
          | inr d ↦ inr (s.doubles q (enters r) (x.0, x.1, x.2, l, m, inl ((b.0.manys x.0).1 d)))
          | inl e ↦ elim (same_or_twice x.1 w σ σ' x.4 to') [
            | inr d ↦ inr (s.doubles q (enters r) (x.0, x.1, x.2, l, m, inr ((b.1.manys x.1).1 d)))
            | inl f ↦ inl (ap₂ (take r) e f)
          ]
        ]

    -- readings of one state are the same, or the state is in the second set
    same_or_many : (ρ σ : Reading) (w : Run) → Below kinds T w i a → Shut kinds T w h i a → (q : ℕ)
        → Reads kinds T q w ρ → Reads kinds T q w σ → (ρ ≡ σ) ⊎ (h.many q ≡ true)
    same_or_many stop stop w b s q x y = inl refl
    same_or_many stop (skip r σ) w b s q x y = inr (split stop (skip r σ) w b s q (ends_slips r) x y)
    same_or_many stop (take r σ σ') nil b s q x y = absurd y
    same_or_many stop (take r σ σ') (node k v w) b s q x y = absurd x
    same_or_many (skip r ρ) stop w b s q x y = inr (split (skip r ρ) stop w b s q (slips_ends r) x y)
    same_or_many (skip r ρ) (skip r' σ) w b s q x y = go (same_or_many ρ σ w b s) (ℕ_discrete r r')
      where
        go : ((t : ℕ) → Reads kinds T t w ρ → Reads kinds T t w σ → (ρ ≡ σ) ⊎ (h.many t ≡ true)) → Dec (r ≡ r')
            → (skip r ρ ≡ skip r' σ) ⊎ (h.many q ≡ true)
        go ih (no n) = inr (split (skip r ρ) (skip r' σ) w b s q (λ e. n (slips_rule r r' e)) x y)
        go ih (yes e) =
            let t' : Skips T r q y.0 = subst (λ z. Skips T z q y.0) (sym e) y.1 in
            let y' : Reads kinds T x.0 w σ = subst (λ z. Reads kinds T z w σ) (skips_one T r q y.0 x.0 t' x.1) y.2 in
            elim (ih x.0 x.2 y') [
              | inl f ↦ inl (ap₂ skip e f)
              | inr d ↦ inr (s.doubles q (slips r) (x.0, x.1, some_all w b s x.0 (ρ, x.2), d))
            ]
    same_or_many (skip r ρ) (take r' σ σ') w b s q x y = inr (split (skip r ρ) (take r' σ σ') w b s q (slips_enters r r') x y)
    same_or_many (take r ρ ρ') stop nil b s q x y = absurd x
    same_or_many (take r ρ ρ') stop (node k v w) b s q x y = absurd y
    same_or_many (take r ρ ρ') (skip r' σ) w b s q x y = inr (split (take r ρ ρ') (skip r' σ) w b s q (enters_slips r r') x y)
    same_or_many (take r ρ ρ') (take r' σ σ') nil b s q x y = absurd x
    same_or_many (take r ρ ρ') (take r' σ σ') (node k v w) b s q x y = go (ℕ_discrete r r')
      where
        go : Dec (r ≡ r') → (take r ρ ρ' ≡ take r' σ σ') ⊎ (h.many q ≡ true)
        go (no n) = inr (split (take r ρ ρ') (take r' σ σ') (node k v w) b s q (λ e. n (enters_rule r r' e)) x y)
        go (yes e) =
            subst (λ z. (take r ρ ρ' ≡ take z σ σ') ⊎ (h.many q ≡ true)) e
            (two_takes r ρ ρ' σ σ' k v w b s q x (subst (λ z. Reads kinds T q (node k v w) (take z σ σ')) (sym e) y))

    many_all : (w : Run) → Below kinds T w i a → Shut kinds T w h i a → (q : ℕ) → Twice kinds T q w → h.many q ≡ true
    many_all w b s q x =
        elim (same_or_many x.one x.other w b s q x.one_reads x.other_reads) [ inl e ↦ absurd (x.differ e) | inr d ↦ d ]

  pub settled : (w : Run) (h i a : Sets) → Below kinds T w i a → Sound kinds T w h → Shut kinds T w h i a → Exact kinds T w h
  settled w h i a b s c =
      record {
        somes = λ q. (s.some_means q, some_all h i a w b c q);
        manys = λ q. (s.many_means q, many_all h i a w b c q);
      }
