-- Every table passes the check in a role or is refused in one way.
use Rattle.std.proofs.Common.{◌≡◌, ℕ, zero, suc, ◌<◌, ◌≤◌, max, ◌⊎◌, length, Ok, Err, Result, sym, refl, ap, ◌∙◌, subst, ap₂, inl, inr, arith}
use lib.Bits.{bit_or}
use lib.Count.{leading_length}
use Rattle.std.proofs.lemmas.Bool.{cases_eq, cases_lt, cases_order, cases_Bool, both_ways}
use Rattle.table.specs.declared.rule.Rule.{Rule}
use Rattle.table.specs.declared.rule.Step.{Step}
use Rattle.table.specs.declared.rule.Step.TheVariants.{Empty, Node}
use Rattle.table.specs.declared.fault.Role.{Role}
use Rattle.table.specs.declared.fault.Cause.{Cause}
use Rattle.table.specs.declared.fault.Cause.TheVariants.{Bounds, EmptyRule, ShortBuffer, Double}
use Rattle.table.specs.declared.fault.Fault.{Fault}
use Rattle.table.specs.Limits.{max_rules, sets_place}
use Rattle.table.specs.Sets.{Bit, Extent}
use Rattle.table.specs.Table.{Tab, At}
use Rattle.table.specs.Fault.{refusal}
use Rattle.table.specs.Check.{limit, is_misplaced, Names, Highest, SoundRule, FaultyRule, Ends, SoundTable, FirstFault, FaultyTable, Checks, OneCheck}
use Rattle.table.proofs.Bits.{below_power, extent_of}
use Rattle.table.proofs.Checking.{ends_extent, beyond, within}
use Rattle.table.proofs.Rules.{at_one, at_more, at_some}

-- every set has an extent
extent_some : (m : ℕ) → (k : ℕ) × Extent (Bit m) k
extent_some m = let l = leading_length m m (below_power m) in (l.0, extent_of m l.0 l.2 l.3)

pub ends_some : {C : Type 0} (T : Tab C) → (n : ℕ) × Extent (Ends T) n
ends_some T =
    let m = bit_or T.starts T.finals in
    let k = extent_some m in
    (k.0, ends_extent T k.0 k.1)

pub highest_of : {C : Type 0} (f t : ℕ) (s : Step C) → (n : ℕ) × Highest (Names (record { from = f; to = t; step = s })) n
highest_of f t Empty = (
  max f t,
  record {
    is = elim (cases_eq (max f t) f) [ inl e ↦ inl e | inr d ↦ inr (inl (omega arith)) ];
    most = λ q n. elim n [ inl e ↦ omega arith | inr m ↦ elim m [ inl e ↦ omega arith | inr b ↦ absurd b ] ];
  },
)
highest_of f t (Node c i m) =
    let n = max f (max t i) in (
      n,
      record {
        is = elim (cases_eq n f) [ inl e ↦ inl e | inr d ↦ elim (cases_eq n t) [ inl e ↦ inr (inl e) | inr b ↦ inr (inr (omega arith)) ] ];
        most = λ q n. elim n [ inl e ↦ omega arith | inr m ↦ elim m [ inl e ↦ omega arith | inr e ↦ omega arith ] ];
      },
    )

sound_not_faulty : {C : Type 0} (role : Role) (x : Rule C) (c : Cause) → SoundRule role x → FaultyRule role x c → ⊥
sound_not_faulty role x EmptyRule s f = s.placed f
sound_not_faulty role x Bounds s f = let l = s.below f.1.0 f.1.1 in omega (arith, f.1.2)
sound_not_faulty role x ShortBuffer s f = f
sound_not_faulty role x Double s f = f

one_cause : {C : Type 0} (role : Role) (x : Rule C) (c d : Cause) → FaultyRule role x c → FaultyRule role x d → c ≡ d
one_cause role x EmptyRule EmptyRule f g = refl
one_cause role x EmptyRule Bounds f g = absurd (g.0 f)
one_cause role x EmptyRule ShortBuffer f g = absurd g
one_cause role x EmptyRule Double f g = absurd g
one_cause role x Bounds EmptyRule f g = absurd (f.0 g)
one_cause role x Bounds Bounds f g = refl
one_cause role x Bounds ShortBuffer f g = absurd g
one_cause role x Bounds Double f g = absurd g
one_cause role x ShortBuffer d f g = absurd f
one_cause role x Double d f g = absurd f

module _ {C : Type 0} (role : Role) where
  rule_outcome : (x : Rule C) → SoundRule role x ⊎ ((c : Cause) × FaultyRule role x c)
  rule_outcome x =
      elim (cases_Bool (is_misplaced role x.step)) [
        | inl e ↦ inr (EmptyRule, e)
        | inr e ↦
            let h = highest_of x.from x.to x.step in
            elim (cases_lt h.0 (limit role)) [
              | inl l ↦ inl (record { placed = both_ways _ e; below = λ q n. let m = h.1.most q n in omega arith })
              | inr l ↦ inr (Bounds, (both_ways _ e, (h.0, h.1.is, l)))
            ]
      ]

  module _ (T : Tab C) where
    abbrev SoundBelow : ℕ → Type 0
    SoundBelow n = (i : ℕ) (x : Rule C) → i < n → At T.rules i x → SoundRule role x

    abbrev FaultyFirst : Type 0
    FaultyFirst = (i : ℕ) × (x : Rule C) × (At T.rules i x) × (SoundBelow i) × ((c : Cause) × FaultyRule role x c)

    rules_outcome : (n : ℕ) → n ≤ length T.rules → SoundBelow n ⊎ FaultyFirst
    rules_outcome zero h = inl (λ i x l a. absurd (omega arith))
    rules_outcome (suc n) h = next (rules_outcome n (omega arith))
      where
        next : SoundBelow n ⊎ FaultyFirst → SoundBelow (suc n) ⊎ FaultyFirst
        next (inr f) = inr f
        next (inl s) =
            let e = at_some T.rules n (omega arith) in
            elim (rule_outcome e.0) [
              | inl r ↦ inl (λ i x l a. at_more (SoundRule role) T.rules n e.0 e.1 r s i x (omega arith) a)
              | inr f ↦ inr (n, e.0, e.1, s, f)
            ]

    some_outcome : (r : Result (Unit {0}) Fault) × Checks role T r
    some_outcome =
        elim (cases_lt max_rules (length T.rules)) [
          | inl h ↦ (Err (refusal role Bounds max_rules), inl (h, refl))
          | inr h ↦ elim (cases_lt (limit role) (ends_some T).0) [
            | inl l ↦ (Err (refusal role Bounds sets_place), inr (inl (h, beyond (Ends T) (ends_some T).0 (limit role) (ends_some T).1 l, refl)))
            | inr l ↦ elim (rules_outcome (length T.rules) (omega arith)) [
              | inl s ↦ (Ok tt, record { few = h; ends = within (Ends T) (ends_some T).0 (limit role) (ends_some T).1 l; rules = λ i x a. s i x a.0 a })
              | inr f ↦ (
                Err (refusal role f.4.0 f.0),
                inr (inr (record {
                  few = h;
                  ends = within (Ends T) (ends_some T).0 (limit role) (ends_some T).1 l;
                  number = f.0;
                  rule = f.1;
                  at = f.2;
                  before = f.3;
                  cause = f.4.0;
                  faulty = f.4.1;
                  is = refl;
                })),
              )
            ]
          ]
        ]

    pub never_both : (e : Fault) → SoundTable role T → FaultyTable role T e → ⊥
    never_both e s (inl f) = let l = s.few in omega (arith, f.0)
    never_both e s (inr (inl f)) = let l = s.ends f.1.0 f.1.1 in omega (arith, f.1.2)
    never_both e s (inr (inr f)) = sound_not_faulty role f.rule f.cause (s.rules f.number f.rule f.at) f.faulty

    not_before : (e d : Fault) (f : FirstFault role T e) (g : FirstFault role T d) → f.number < g.number → ⊥
    not_before e d f g l = sound_not_faulty role f.rule f.cause (g.before f.number f.rule l f.at) f.faulty

    one_first : (e d : Fault) → FirstFault role T e → FirstFault role T d → e ≡ d
    one_first e d f g =
        elim (cases_order f.number g.number) [
          | inl n ↦
              let r : f.rule ≡ g.rule = at_one T.rules g.number f.rule g.rule (subst (λ z. At T.rules z f.rule) n f.at) g.at in
              let c : f.cause ≡ g.cause = one_cause role g.rule f.cause g.cause (subst (λ x. FaultyRule role x f.cause) r f.faulty) g.faulty in
              f.is ∙ (ap₂ (refusal role) c n ∙ sym g.is)
          | inr o ↦ elim o [ inl l ↦ absurd (not_before e d f g l) | inr l ↦ absurd (not_before d e g f l) ]
        ]

    pub one_fault : (e d : Fault) → FaultyTable role T e → FaultyTable role T d → e ≡ d
    one_fault e d (inl f) (inl g) = f.1 ∙ sym g.1
    one_fault e d (inl f) (inr (inl g)) = absurd (omega (arith, f.0, g.0))
    one_fault e d (inl f) (inr (inr g)) = absurd (omega (arith, f.0, g.few))
    one_fault e d (inr (inl f)) (inl g) = absurd (omega (arith, f.0, g.0))
    one_fault e d (inr (inl f)) (inr (inl g)) = f.2 ∙ sym g.2
    one_fault e d (inr (inl f)) (inr (inr g)) = absurd (omega (arith, f.1.2, g.ends f.1.0 f.1.1))
    one_fault e d (inr (inr f)) (inl g) = absurd (omega (arith, g.0, f.few))
    one_fault e d (inr (inr f)) (inr (inl g)) = absurd (omega (arith, g.1.2, f.ends g.1.0 g.1.1))
    one_fault e d (inr (inr f)) (inr (inr g)) = one_first e d f g

    only_outcome : (r s : Result (Unit {0}) Fault) → Checks role T r → Checks role T s → r ≡ s
    only_outcome (Ok u) (Ok v) x y = refl
    only_outcome (Ok u) (Err e) x y = absurd (never_both e x y)
    only_outcome (Err e) (Ok v) x y = absurd (never_both e y x)
    only_outcome (Err e) (Err d) x y = ap Err (one_fault e d x y)

pub one_check : {C : Type 0} (T : Tab C) → OneCheck T
one_check T = record { some = λ role. some_outcome role T; only = λ role. only_outcome role T }
