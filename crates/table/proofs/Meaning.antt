-- What masks and ranges mean, and the state count of a table.
use Rattle.std.proofs.Common.{◌≡◌, ℕ, ◌<◌, ◌≤◌, max, eqb, sym, ap, ◌∙◌, inl, inr, arith}
use Rattle.std.proofs.lemmas.Bool.{and_parts, and_from, and_left, and_right, leb-true, le-leb, lt-leb, eq-eqb, ne_eqb, cases_order}
use Rattle.table.specs.declared.fault.Role.{Role}
use Rattle.table.specs.Sets.{bit}
use Rattle.table.specs.Table.{Tab}
use Rattle.table.specs.Range.{range_kinds}
use Rattle.table.specs.Check.{limit, SoundTable, Named, StateCount}
use Rattle.table.specs.Laws.{Meanings, CountedStates}
use Rattle.table.proofs.Bits.{bit_power}
use Rattle.table.proofs.Masks.{meant_same}
use Rattle.table.proofs.Existing.{count_some}

range_first : (first last k : ℕ) → last < first → range_kinds first last k ≡ eqb first k
range_first first last k h =
    elim (cases_order first k) [
      | inl e ↦ and_from _ _ (le-leb first k (omega arith)) (le-leb k (max first last) (omega arith)) ∙ sym (eq-eqb first k e)
      | inr (inl l) ↦ and_right _ _ (lt-leb k (max first last) (omega arith)) ∙ sym (ne_eqb first k (λ e. omega arith))
      | inr (inr l) ↦ and_left _ _ (lt-leb first k (omega arith)) ∙ sym (ne_eqb first k (λ e. omega arith))
    ]

pub meanings_hold : Meanings
meanings_hold =
    record {
      mask = λ m k n. ap (λ z. bit z k) (meant_same m n);
      mask_zero = λ k. bit_power 0 k;
      range = λ first last k l h. and_from _ _ (le-leb first k l) (le-leb k (max first last) (omega arith));
      range_only = λ first last k e.
          let p = and_parts _ _ e in
          let l = leb-true first k p.0 in
          let h = leb-true k (max first last) p.1 in
          (l, λ b. omega arith);
      range_first = range_first;
    }

module _ {C : Type 0} (T : Tab C) where
  not_above : (m n : ℕ) → StateCount T m → StateCount T n → m ≤ n
  not_above m n x y = elim x.tight [ inl z ↦ omega arith | inr z ↦ let l = y.below z.0 z.2 in omega (arith, z.1) ]

  named_low : (role : Role) → SoundTable role T → (q : ℕ) → Named T q → q < limit role
  named_low role s q (inl e) = s.ends q e
  named_low role s q (inr p) = (s.rules p.0 p.1 p.2).below q p.3

  pub states_counted : CountedStates T
  states_counted =
      record {
        some = count_some T;
        only = λ m n x y. let l = not_above m n x y in let g = not_above n m y x in omega arith;
        within = λ role s n x. elim x.tight [ inl z ↦ omega arith | inr z ↦ let l = named_low role s z.0 z.2 in omega (arith, z.1) ];
      }
