-- A rule number has one rule.
use Rattle.std.proofs.Common.{◌≡◌, ℕ, zero, suc, ◌+◌, ◌<◌, Bool, List, [], ◌∷◌, length, sym, refl, ap, ◌∙◌, subst, inl, inr, arith}
use Rattle.std.proofs.lemmas.List.{get_or_default}
use Rattle.std.proofs.lemmas.Bool.{cases_eq}
use Rattle.table.specs.declared.rule.Rule.{Rule}
use Rattle.table.specs.declared.rule.Step.TheVariants.{Node}
use Rattle.table.specs.Table.{Tab, At}
use Rattle.table.specs.Reading.{Skips, Takes}

pub at_one : {A : Type 0} (xs : List A) (i : ℕ) (x y : A) → At xs i x → At xs i y → x ≡ y
at_one xs i x y h g = sym h.1 ∙ (get_or_default xs i x y h.0 ∙ g.1)

-- what holds of each of the first n elements, and of element n
pub at_more : {A : Type 0} (P : A → Type 0) (xs : List A) (n : ℕ) (x : A) → At xs n x → P x
    → ((i : ℕ) (y : A) → i < n → At xs i y → P y) → (i : ℕ) (y : A) → i < n + 1 → At xs i y → P y
at_more P xs n x at p inv i y h a =
    elim (cases_eq i n) [
      | inr d ↦ inv i y (omega arith) a
      | inl e ↦ subst P (at_one xs n x y at (subst (λ z. At xs z y) e a)) p
    ]

pub at_some : {A : Type 0} (xs : List A) (i : ℕ) → i < length xs → (x : A) × At xs i x
at_some [] i h = absurd (omega arith)
at_some (x ∷ xs) zero h = (x, (h, refl))
at_some (x ∷ xs) (suc i) h = let e = at_some xs i (omega arith) in (e.0, (h, e.1.1))

pub skips_one : {C : Type 0} (T : Tab C) (r q t u : ℕ) → Skips T r q t → Skips T r q u → t ≡ u
skips_one T r q t u h g = ap (λ (x : Rule _). x.to) (at_one T.rules r _ _ h g)

module _ {C : Type 0} (kinds : C → ℕ → Bool) (T : Tab C) where
  same_rule : (r q k s t s' t' : ℕ) (h : Takes kinds T r q k s t) (g : Takes kinds T r q k s' t')
      → ◌≡◌ {A = Rule C} (record { from = q; to = t; step = Node h.class s h.marks }) (record { from = q; to = t'; step = Node g.class s' g.marks })
  same_rule r q k s t s' t' h g = at_one T.rules r _ _ h.rule g.rule

  pub takes_after : (r q k s t s' t' : ℕ) → Takes kinds T r q k s t → Takes kinds T r q k s' t' → t ≡ t'
  takes_after r q k s t s' t' h g = ap (λ (x : Rule C). x.to) (same_rule r q k s t s' t' h g)

  pub takes_inside : (r q k s t s' t' : ℕ) → Takes kinds T r q k s t → Takes kinds T r q k s' t' → s ≡ s'
  takes_inside r q k s t s' t' h g = let e = ap (λ (x : Rule C). x.step) (same_rule r q k s t s' t' h g) in cc
