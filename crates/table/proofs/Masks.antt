-- The kinds of masks.
use Rattle.std.proofs.Common.{◌≡◌, ℕ, ◌^◌, ◌<◌, ◌≤◌, false, ◌&&◌, eqb, Ok, Err, Option, Result, sym, ap, ◌∙◌, subst, inl, inr, arith, lit<}
use lib.Bits.{bit_and}
use lib.Count.{count_trailing_zeros, leading_top}
use Rattle.std.proofs.lemmas.Bool.{cases_Bool, cases_lt, cond-true, cond-false, ne_eqb, eqb-false}
use Rattle.table.specs.Sets.{bit, Bit}
use Rattle.std.specs.Result.{result_ok}
use Rattle.table.specs.declared.mask.Mask.{Mask}
use Rattle.table.specs.Class.{Meets}
use Rattle.table.specs.ClassFault.{ClassFault}
use Rattle.table.specs.Mask.{meant, mask_kinds, MakesMask}
use Rattle.table.proofs.Bits.{bit_of_and, bit_above, top_bit, lowest}

pub meant_some : (m : ℕ) → (meant m ≡ 0 → ⊥)
meant_some m e =
    elim (cases_Bool (eqb m 0)) [
      | inl z ↦ let y = cond-true (eqb m 0) 1 m z in omega arith
      | inr z ↦ eqb-false m 0 z (sym (cond-false (eqb m 0) 1 m z) ∙ e)
    ]

pub meant_same : (m : ℕ) → (m ≡ 0 → ⊥) → meant m ≡ m
meant_same m n = cond-false _ 1 m (ne_eqb m 0 n)

no_meet : (a b : ℕ) → bit_and (meant a) (meant b) ≡ 0 → (k : ℕ) → (mask_kinds a k && mask_kinds b k) ≡ false
no_meet a b e k = sym (bit_of_and (meant a) (meant b) k) ∙ (ap (λ z. bit z k) e ∙ bit_above 0 0 k (lit< tt) (omega arith))

meets : (a b : ℕ) → (bit_and (meant a) (meant b) ≡ 0 → ⊥) → (k : ℕ) → mask_kinds (bit_and (meant a) (meant b)) k ≡ (mask_kinds a k && mask_kinds b k)
meets a b n k = ap (λ z. bit z k) (meant_same (bit_and (meant a) (meant b)) n) ∙ bit_of_and (meant a) (meant b) k

-- a number below 2 ^ k with a bit has its lowest at the trailing zeros
pub least_bit : (k m : ℕ) → m < 2 ^ k → (m ≡ 0 → ⊥) → Bit m (count_trailing_zeros k m)
least_bit k m h n =
    elim (cases_lt (count_trailing_zeros k m) k) [
      | inl l ↦ (lowest k m).there l
      | inr l ↦
          let t = leading_top k m (omega arith) h in
          let e = t.1 in
          absurd ((lowest k m).none_below t.0 (omega arith) (top_bit m t.0 t.2 t.3))
    ]

pub least_low : (k m q : ℕ) → Bit m q → count_trailing_zeros k m ≤ q
least_low k m q b = elim (cases_lt q (count_trailing_zeros k m)) [ inl l ↦ absurd ((lowest k m).none_below q l b) | inr l ↦ l ]

-- the mask made of the bits in both, or nothing
pub met : (a b : Mask) (m : ℕ) (r : Result Mask ClassFault) (o : Option Mask) → m ≡ bit_and (meant a.bits) (meant b.bits) → MakesMask m r → o ≡ result_ok r
    → Meets (λ (x : Mask). mask_kinds x.bits) a b o
met a b m r o e made is = subst (Meets (λ (x : Mask). mask_kinds x.bits) a b) (sym is) (go r made)
  where
    go : (r : Result Mask ClassFault) → MakesMask m r → Meets (λ (x : Mask). mask_kinds x.bits) a b (result_ok r)
    go (Ok x) made = λ k h.
        subst (λ z. mask_kinds z k ≡ (mask_kinds a.bits k && mask_kinds b.bits k)) (sym (made.1 ∙ e)) (meets a.bits b.bits (λ z. made.0 (e ∙ z)) k)
    go (Err f) made = λ k h. no_meet a.bits b.bits (sym e ∙ made.0) k
