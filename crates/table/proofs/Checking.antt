-- The check of a table, and the state count.
use Rattle.std.proofs.Common.{◌≡◌, ℕ, ◌+◌, ◌<◌, ◌≤◌, max, ◌⊎◌, length, sym, refl, ◌∙◌, subst, inl, inr, arith}
use lib.Bits.{bit_or}
use Rattle.std.proofs.lemmas.Bool.{cases_eq, or_cases, or_left, or_right}
use Rattle.table.specs.declared.rule.Rule.{Rule}
use Rattle.table.specs.declared.fault.Role.{Role}
use Rattle.table.specs.declared.fault.Role.TheVariants.{Form, Pattern}
use Rattle.table.specs.Limits.{pattern_states}
use Rattle.table.specs.Sets.{Bit, Extent}
use Rattle.table.specs.Table.{Tab, At}
use Rattle.table.specs.Check.{limit, Highest, Names, Ends, SoundTable, Named, StateCount}
use Rattle.table.specs.Counting.{Bounded}
use Rattle.table.specs.Scratch.{NoSkips}
use Rattle.table.proofs.Bits.{bit_of_or}
use Rattle.table.proofs.Rules.{at_one}

-- the same numbers, the same extent
extent_map : (P Q : ℕ → Type 0) (n : ℕ) → ((q : ℕ) → P q → Q q) → ((q : ℕ) → Q q → P q) → Extent P n → Extent Q n
extent_map P Q n f g e =
    record {
      below = λ q x. e.below q (g q x);
      tight = elim e.tight [ inl z ↦ inl z | inr z ↦ inr (z.0, z.1, f z.0 z.2) ];
    }

-- start and final states as one set
pub ends_extent : {C : Type 0} (T : Tab C) (n : ℕ) → Extent (Bit (bit_or T.starts T.finals)) n → Extent (Ends T) n
ends_extent T n e =
    extent_map (Bit (bit_or T.starts T.finals)) (Ends T) n
    (λ q b. or_cases _ _ (sym (bit_of_or T.starts T.finals q) ∙ b))
    (λ q s. bit_of_or T.starts T.finals q ∙ elim s [ inl x ↦ or_left _ _ x | inr x ↦ or_right _ _ x ])
    e

-- an extent above n is reached
pub beyond : (P : ℕ → Type 0) (m n : ℕ) → Extent P m → n < m → (q : ℕ) × (P q) × (n ≤ q)
beyond P m n e h =
    elim e.tight [ inl z ↦ absurd (omega arith) | inr z ↦ (z.0, z.2, omega (arith, z.1)) ]

-- states named at the ends or in one of the first n rules
abbrev pub NamedBy : {C : Type 0} → Tab C → ℕ → ℕ → Type 0
NamedBy {C} T n q = Ends T q ⊎ ((i : ℕ) × (x : Rule C) × (i < n) × (At T.rules i x) × (Names x q))

module _ {C : Type 0} (T : Tab C) where
  pub named_none : (m : ℕ) → Extent (Ends T) m → Extent (NamedBy T 0) m
  named_none m e = extent_map (Ends T) (NamedBy T 0) m (λ q x. inl x) (λ q s. elim s [ inl x ↦ x | inr x ↦ absurd (omega (arith, x.2)) ]) e

  weaker : (n q : ℕ) → NamedBy T n q → NamedBy T (n + 1) q
  weaker n q (inl x) = inl x
  weaker n q (inr x) = inr (x.0, x.1, omega (arith, x.2), x.3, x.4)

  pub named_more : (n m h : ℕ) (x : Rule C) → At T.rules n x → Highest (Names x) h → Extent (NamedBy T n) m → Extent (NamedBy T (n + 1)) (max m (h + 1))
  named_more n m h x at top e =
      record {
        below = λ q s. under q s;
        tight = elim (cases_eq (max m (h + 1)) m) [
          | inl z ↦ elim e.tight [ inl y ↦ inl (z ∙ y) | inr y ↦ inr (y.0, z ∙ y.1, weaker n y.0 y.2) ]
          | inr d ↦ inr (h, omega arith, inr (n, x, omega arith, at, top.is))
        ];
      }
    where
      under : (q : ℕ) → NamedBy T (n + 1) q → q < max m (h + 1)
      under q (inl s) = let l = e.below q (inl s) in omega arith
      under q (inr s) =
          elim (cases_eq s.0 n) [
            | inr d ↦ let l = e.below q (inr (s.0, s.1, omega (arith, s.2), s.3, s.4)) in omega arith
            | inl z ↦
                let r : x ≡ s.1 = at_one T.rules n x s.1 at (subst (λ w. At T.rules w s.1) z s.3) in
                let l = top.most q (subst (λ (w : Rule C). Names w q) (sym r) s.4) in omega arith
          ]

  pub named_all : (n m : ℕ) → length T.rules ≤ n → Extent (NamedBy T n) m → StateCount T m
  named_all n m all e =
      extent_map (NamedBy T n) (Named T) m
      (λ q s. elim s [ inl x ↦ inl x | inr x ↦ inr (x.0, x.1, x.3, x.4) ])
      (λ q s. elim s [ inl x ↦ inl x | inr x ↦ inr (x.0, x.1, omega (arith, x.2.0), x.2, x.3) ])
      e

-- an extent within n
pub within : (P : ℕ → Type 0) (m n : ℕ) → Extent P m → m ≤ n → (q : ℕ) → P q → q < n
within P m n e h q p = let l = e.below q p in omega arith

-- what the loops need of a table that passes
limit_fits : (role : Role) → limit role ≤ pattern_states
limit_fits Form = omega arith
limit_fits Pattern = omega arith

pub sound_bounded : {C : Type 0} (role : Role) (T : Tab C) → SoundTable role T → Bounded T
sound_bounded role T s i x at q n = let l = (s.rules i x at).below q n in let m = limit_fits role in omega arith

pub form_plain : {C : Type 0} (T : Tab C) → SoundTable Form T → NoSkips T
form_plain T s r q t k = (s.rules r _ k).placed refl
