-- Facts that nothing can be added to hold of every run with its readings.
use Rattle.std.proofs.Common.{◌≡◌, ℕ, Bool, ◌⊎◌, sym, refl, subst, ap₂, inl, inr}
use native.Mathlib.Decide.{ℕ_discrete}
use Rattle.record.specs.Run.{Run, nil, node}
use Rattle.table.specs.Sets.{Bit}
use Rattle.table.specs.Table.{Tab}
use Rattle.table.specs.Reading.{Reading, stop, skip, take, Skips, Takes, Reads}
use Rattle.examine.specs.declared.fact.Fact.{Fact}
use Rattle.examine.specs.Facts.{together as together_fact, poised as poised_fact, apart as apart_fact, Plain, Steady, Closed}
use Rattle.examine.specs.Facts.Leads.{slips, slides, against, forks, both}
use Rattle.examine.specs.Facts.Makes.{plain as plain_node, parted, within, beyond}
use Rattle.table.proofs.Rules.{skips_one, takes_inside, takes_after}

module _ {C : Type 0} (kinds : C → ℕ → Bool) (F P : Tab C) (K : Fact → Type 0) (plain : Plain F) (closed : Closed kinds F P K) where
  abbrev Together : ℕ → ℕ → ℕ → Type 0
  Together f p q = K (together_fact f p q)

  abbrev Poised : ℕ → ℕ → ℕ → Type 0
  Poised f p q = K (poised_fact f p q)

  abbrev Apart : ℕ → ℕ → Type 0
  Apart f p = K (apart_fact f p)

  -- together, of one second reading and everything else
  abbrev With : Reading → Type 0
  With ρ₂ =
      (w : Run) (ρ ρ₁ : Reading) (f p q : ℕ) → Reads kinds F f w ρ → Reads kinds P p w ρ₁ → Reads kinds P q w ρ₂ → Together f p q

  poised_stop : (ρ₁ ρ : Reading) (f p q : ℕ) → Reads kinds F f nil ρ → Reads kinds P p nil ρ₁ → Bit P.finals q → Poised f p q
  poised_stop stop stop f p q h h₁ h₂ = closed.ends f p q h h₁ h₂
  poised_stop stop (skip r ρ) f p q h h₁ h₂ = absurd (plain r f h.0 h.1)
  poised_stop stop (take r ρ σ) f p q h h₁ h₂ = absurd h
  poised_stop (skip r ρ₁) ρ f p q h h₁ h₂ = closed.leads 0 r _ _ _ (slips r h₁.1) (poised_stop ρ₁ ρ f h₁.0 q h h₁.2 h₂)
  poised_stop (take r ρ₁ σ₁) ρ f p q h h₁ h₂ = absurd h₁

  poised_take : (ρ₁ ρ : Reading) (k : ℕ) (i a : Run) (r₂ : ℕ) (ρ₂ σ₂ : Reading) (f p q : ℕ)
      → With ρ₂ → With σ₂
      → Reads kinds F f (node k i a) ρ → Reads kinds P p (node k i a) ρ₁ → Reads kinds P q (node k i a) (take r₂ ρ₂ σ₂) → Poised f p q
  poised_take stop ρ k i a r₂ ρ₂ σ₂ f p q inside after h h₁ h₂ = absurd h₁
  poised_take (skip r ρ₁) ρ k i a r₂ ρ₂ σ₂ f p q inside after h h₁ h₂ =
      closed.leads 0 r _ _ _ (slips r h₁.1) (poised_take ρ₁ ρ k i a r₂ ρ₂ σ₂ f h₁.0 q inside after h h₁.2 h₂)
  poised_take (take r ρ₁ σ₁) stop k i a r₂ ρ₂ σ₂ f p q inside after h h₁ h₂ = absurd h
  poised_take (take r ρ₁ σ₁) (skip s ρ) k i a r₂ ρ₂ σ₂ f p q inside after h h₁ h₂ = absurd (plain s f h.0 h.1)
  poised_take (take r ρ₁ σ₁) (take s ρ σ) k i a r₂ ρ₂ σ₂ f p q inside after h h₁ h₂ =
      closed.joins k s r r₂ (together_fact h.0 h₁.0 h₂.0) (together_fact h.1 h₁.1 h₂.1) (poised_fact f p q)
      (record { form = h.2; first = h₁.2; second = h₂.2; makes = plain_node })
      (inside i ρ ρ₁ h.0 h₁.0 h₂.0 h.3 h₁.3 h₂.3)
      (after a σ σ₁ h.1 h₁.1 h₂.1 h.4 h₁.4 h₂.4)

  pub together : (ρ₂ : Reading) → With ρ₂
  together stop nil ρ ρ₁ f p q h h₁ h₂ = closed.rests f p q (poised_stop ρ₁ ρ f p q h h₁ h₂)
  together stop (node k i a) ρ ρ₁ f p q h h₁ h₂ = absurd h₂
  together (skip r ρ₂) w ρ ρ₁ f p q h h₁ h₂ = closed.leads 0 r _ _ _ (slides r h₂.1) (together ρ₂ w ρ ρ₁ f p h₂.0 h h₁ h₂.2)
  together (take r ρ₂ σ₂) nil ρ ρ₁ f p q h h₁ h₂ = absurd h₂
  together (take r ρ₂ σ₂) (node k i a) ρ ρ₁ f p q h h₁ h₂ =
      closed.rests f p q (poised_take ρ₁ ρ k i a r ρ₂ σ₂ f p q (together ρ₂) (together σ₂) h h₁ h₂)

  pub poised : (ρ₂ : Reading) → Steady ρ₂ → (w : Run) (ρ ρ₁ : Reading) (f p q : ℕ) → Reads kinds F f w ρ → Reads kinds P p w ρ₁ → Reads kinds P q w ρ₂ → Poised f p q
  poised stop st nil ρ ρ₁ f p q h h₁ h₂ = poised_stop ρ₁ ρ f p q h h₁ h₂
  poised stop st (node k i a) ρ ρ₁ f p q h h₁ h₂ = absurd h₂
  poised (skip r ρ₂) st w ρ ρ₁ f p q h h₁ h₂ = absurd st
  poised (take r ρ₂ σ₂) st nil ρ ρ₁ f p q h h₁ h₂ = absurd h₂
  poised (take r ρ₂ σ₂) st (node k i a) ρ ρ₁ f p q h h₁ h₂ = poised_take ρ₁ ρ k i a r ρ₂ σ₂ f p q (together ρ₂) (together σ₂) h h₁ h₂

  -- two readings from one state are the same, or the state is apart
  abbrev Same : Reading → Reading → Type 0
  Same ρ₁ ρ₂ = (w : Run) (ρ : Reading) (f p : ℕ) → Reads kinds F f w ρ → Reads kinds P p w ρ₁ → Reads kinds P p w ρ₂ → (ρ₁ ≡ ρ₂) ⊎ Apart f p

  two_skips : (r₁ r₂ : ℕ) (ρ₁ ρ₂ : Reading) → Same ρ₁ ρ₂ → Dec (r₁ ≡ r₂) → Same (skip r₁ ρ₁) (skip r₂ ρ₂)
  two_skips r₁ r₂ ρ₁ ρ₂ same (no n) w ρ f p h h₁ h₂ =
      inr (closed.leads 0 r₁ _ _ _ (forks r₁ r₂ n h₁.1 h₂.1) (together ρ₂ w ρ ρ₁ f h₁.0 h₂.0 h h₁.2 h₂.2))
  two_skips r₁ r₂ ρ₁ ρ₂ same (yes e) w ρ f p h h₁ h₂ =
      let g : Skips P r₁ p h₂.0 = subst (λ x. Skips P x p h₂.0) (sym e) h₂.1 in
      let to : h₂.0 ≡ h₁.0 = skips_one P r₁ p h₂.0 h₁.0 g h₁.1 in
      elim (same w ρ f h₁.0 h h₁.2 (subst (λ x. Reads kinds P x w ρ₂) to h₂.2)) [
        | inl s ↦ inl (ap₂ skip e s)
        | inr d ↦ inr (closed.leads 0 r₁ _ _ _ (both r₁ h₁.1) d)
      ]

  two_takes : (r₁ r₂ : ℕ) (ρ₁ σ₁ ρ₂ σ₂ : Reading) → Same ρ₁ ρ₂ → Same σ₁ σ₂ → Dec (r₁ ≡ r₂) → (k : ℕ) (i a : Run) (ρ : Reading) (f p : ℕ)
      → Reads kinds F f (node k i a) ρ → Reads kinds P p (node k i a) (take r₁ ρ₁ σ₁) → Reads kinds P p (node k i a) (take r₂ ρ₂ σ₂)
      → (take r₁ ρ₁ σ₁ ≡ take r₂ ρ₂ σ₂) ⊎ Apart f p
  two_takes r₁ r₂ ρ₁ σ₁ ρ₂ σ₂ inside after d k i a stop f p h h₁ h₂ = absurd h
  two_takes r₁ r₂ ρ₁ σ₁ ρ₂ σ₂ inside after d k i a (skip s ρ) f p h h₁ h₂ = absurd (plain s f h.0 h.1)
  two_takes r₁ r₂ ρ₁ σ₁ ρ₂ σ₂ inside after (no n) k i a (take s ρ σ) f p h h₁ h₂ =
      inr (closed.joins k s r₁ r₂ (together_fact h.0 h₁.0 h₂.0) (together_fact h.1 h₁.1 h₂.1) (apart_fact f p)
      (record { form = h.2; first = h₁.2; second = h₂.2; makes = parted n refl })
      (together ρ₂ i ρ ρ₁ h.0 h₁.0 h₂.0 h.3 h₁.3 h₂.3)
      (together σ₂ a σ σ₁ h.1 h₁.1 h₂.1 h.4 h₁.4 h₂.4))
  two_takes r₁ r₂ ρ₁ σ₁ ρ₂ σ₂ inside after (yes e) k i a (take s ρ σ) f p h h₁ h₂ =
      let g : Takes kinds P r₁ p k h₂.0 h₂.1 = subst (λ x. Takes kinds P x p k h₂.0 h₂.1) (sym e) h₂.2 in
      let in₂ : Reads kinds P h₁.0 i ρ₂ = subst (λ x. Reads kinds P x i ρ₂) (takes_inside kinds P r₁ p k h₂.0 h₂.1 h₁.0 h₁.1 g h₁.2) h₂.3 in
      let to₂ : Reads kinds P h₁.1 a σ₂ = subst (λ x. Reads kinds P x a σ₂) (takes_after kinds P r₁ p k h₂.0 h₂.1 h₁.0 h₁.1 g h₁.2) h₂.4 in
      elim (inside i ρ h.0 h₁.0 h.3 h₁.3 in₂) [
        | inr d ↦ inr (closed.joins k s r₁ r₁ (apart_fact h.0 h₁.0) (together_fact h.1 h₁.1 h₁.1) (apart_fact f p)
            (record { form = h.2; first = h₁.2; second = h₁.2; makes = within refl }) d (together σ₂ a σ σ₁ h.1 h₁.1 h₁.1 h.4 h₁.4 to₂))
        | inl x ↦ elim (after a σ h.1 h₁.1 h.4 h₁.4 to₂) [
          | inr d ↦ inr (closed.joins k s r₁ r₁ (together_fact h.0 h₁.0 h₁.0) (apart_fact h.1 h₁.1) (apart_fact f p)
              (record { form = h.2; first = h₁.2; second = h₁.2; makes = beyond refl }) (together ρ₂ i ρ ρ₁ h.0 h₁.0 h₁.0 h.3 h₁.3 in₂) d)
          | inl y ↦ inl (λ j. take (e j) (x j) (y j))
        ]
      ]

  pub same_or_apart : (ρ₁ ρ₂ : Reading) → Same ρ₁ ρ₂
  same_or_apart stop stop w ρ f p h h₁ h₂ = inl refl
  same_or_apart stop (skip r ρ₂) w ρ f p h h₁ h₂ =
      inr (closed.leads 0 r _ _ _ (against r h₂.1) (poised stop tt w ρ ρ₂ f h₂.0 p h h₂.2 h₁))
  same_or_apart stop (take r ρ₂ σ₂) nil ρ f p h h₁ h₂ = absurd h₂
  same_or_apart stop (take r ρ₂ σ₂) (node k i a) ρ f p h h₁ h₂ = absurd h₁
  same_or_apart (skip r ρ₁) stop w ρ f p h h₁ h₂ =
      inr (closed.leads 0 r _ _ _ (against r h₁.1) (poised stop tt w ρ ρ₁ f h₁.0 p h h₁.2 h₂))
  same_or_apart (skip r ρ₁) (skip s ρ₂) w ρ f p h h₁ h₂ = two_skips r s ρ₁ ρ₂ (same_or_apart ρ₁ ρ₂) (ℕ_discrete r s) w ρ f p h h₁ h₂
  same_or_apart (skip r ρ₁) (take s ρ₂ σ₂) w ρ f p h h₁ h₂ =
      inr (closed.leads 0 r _ _ _ (against r h₁.1) (poised (take s ρ₂ σ₂) tt w ρ ρ₁ f h₁.0 p h h₁.2 h₂))
  same_or_apart (take r ρ₁ σ₁) stop nil ρ f p h h₁ h₂ = absurd h₁
  same_or_apart (take r ρ₁ σ₁) stop (node k i a) ρ f p h h₁ h₂ = absurd h₂
  same_or_apart (take r ρ₁ σ₁) (skip s ρ₂) w ρ f p h h₁ h₂ =
      inr (closed.leads 0 s _ _ _ (against s h₂.1) (poised (take r ρ₁ σ₁) tt w ρ ρ₂ f h₂.0 p h h₂.2 h₁))
  same_or_apart (take r ρ₁ σ₁) (take s ρ₂ σ₂) nil ρ f p h h₁ h₂ = absurd h₁
  same_or_apart (take r ρ₁ σ₁) (take s ρ₂ σ₂) (node k i a) ρ f p h h₁ h₂ =
      two_takes r s ρ₁ σ₁ ρ₂ σ₂ (same_or_apart ρ₁ ρ₂) (same_or_apart σ₁ σ₂) (ℕ_discrete r s) k i a ρ f p h h₁ h₂

  pub apart : (ρ₁ ρ₂ : Reading) (w : Run) (ρ : Reading) (f p : ℕ) → Reads kinds F f w ρ → Reads kinds P p w ρ₁ → Reads kinds P p w ρ₂ → (ρ₁ ≡ ρ₂ → ⊥) → Apart f p
  apart ρ₁ ρ₂ w ρ f p h h₁ h₂ n = elim (same_or_apart ρ₁ ρ₂ w ρ f p h h₁ h₂) [ inl e ↦ absurd (n e) | inr d ↦ d ]
