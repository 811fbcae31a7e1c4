-- The bits of a number: after an or, an and and a shift, the highest, the lowest, and how many.
use Rattle.std.proofs.Common.{◌≡◌, ℕ, zero, suc, ◌+◌, ◌*◌, ◌/◌, ◌%◌, ◌^◌, ◌<◌, ◌≤◌, max, min, Bool, true, false, ◌&&◌, ◌||◌, eqb, sym, refl, ap, ◌∙◌, inl, inr, pow-suc, div-one, arith}
use lib.Bits.{bit_and, bit_or}
use lib.Count.{count_trailing_zeros, under, leading_top, ones, ones_step}
use Rattle.std.specs.Int.{bit_at}
use Rattle.std.proofs.lemmas.Nat.{zero_from_ones, ones_le_self, pow_pos, one_shl, le-div, div_below}
use Rattle.std.proofs.lemmas.Nat.Bits.{shr_and_one, bit_at_or, bit_at_and, bit_at-lt, bit_at-pow_same, bit_at-pow_other, bit_at_above, bit_at-suc, bit_at_lowest}
use Rattle.std.proofs.lemmas.Bool.{cases_eq, eq-eqb, ne_eqb, eqb-true, cases_lt, true≢false}
use Rattle.table.specs.Sets.{bit, Bit, Extent}

pub bit_is : (m k : ℕ) → eqb (bit_and (m / 2 ^ k) 1) 1 ≡ bit m k
bit_is m k = ap (λ x. eqb x 1) (shr_and_one m k)

max_one : (m n : ℕ) → m < 2 → n < 2 → eqb (max m n) 1 ≡ (eqb m 1 || eqb n 1)
max_one zero zero a b = refl
max_one zero (suc zero) a b = refl
max_one (suc zero) zero a b = refl
max_one (suc zero) (suc zero) a b = refl
max_one zero (suc (suc n)) a b = absurd (omega arith)
max_one (suc zero) (suc (suc n)) a b = absurd (omega arith)
max_one (suc (suc m)) n a b = absurd (omega arith)

pub bit_of_or : (a b j : ℕ) → bit (bit_or a b) j ≡ (bit a j || bit b j)
bit_of_or a b j = ap (λ z. eqb z 1) (bit_at_or a b j) ∙ max_one (bit_at a j) (bit_at b j) (bit_at-lt a j) (bit_at-lt b j)

pub bit_power : (k j : ℕ) → bit (2 ^ k) j ≡ eqb k j
bit_power k j =
    elim (cases_eq k j) [
      | inl e ↦ ap (λ z. bit (2 ^ z) j) e ∙ (ap (λ z. eqb z 1) (bit_at-pow_same j) ∙ sym (eq-eqb k j e))
      | inr d ↦ ap (λ z. eqb z 1) (bit_at-pow_other k j (λ e. d (sym e))) ∙ sym (ne_eqb k j d)
    ]

pub bit_with : (m k j : ℕ) → k < 64 → bit (bit_or m ((1 * 2 ^ k) % 2 ^ 64)) j ≡ (bit m j || eqb k j)
bit_with m k j h = ap (λ z. bit (bit_or m z) j) (one_shl k 64 h) ∙ (bit_of_or m (2 ^ k) j ∙ ap (λ z. bit m j || z) (bit_power k j))

pub below_power : (m : ℕ) → m < 2 ^ m
below_power zero = omega arith
below_power (suc m) = let l = below_power m in let s = pow-suc 2 m in omega arith

-- a number below 2 ^ n has no bit from n on
pub bit_above : (m n q : ℕ) → m < 2 ^ n → n ≤ q → bit m q ≡ false
bit_above m n q h l = ap (λ z. eqb z 1) (bit_at_above m n q h l)

-- below 64 a shift that goes round there is none
pub bit_modulo : (m q : ℕ) → q < 64 → bit m (q % 64) ≡ bit m q
bit_modulo m q h = ap (bit m) (omega arith)

pub no_bit_from : (m n q : ℕ) → m < 2 ^ n → n ≤ q → Bit m q → ⊥
no_bit_from m n q h l e = true≢false (sym e ∙ bit_above m n q h l)

pub top_bit : (m j : ℕ) → 2 ^ j ≤ m → m < 2 ^ suc j → Bit m j
top_bit m j h l =
    let p = pow_pos j in
    let s = pow-suc 2 j in
    let x : 1 ≤ m / 2 ^ j = le-div 1 m (2 ^ j) p (omega arith) in
    let y : m / 2 ^ j < 2 = div_below m (2 ^ j) 2 p (omega arith) in
    let z : m / 2 ^ j ≡ 1 = omega arith in
    ap (λ w. eqb (w % 2) 1) z

-- the least power of two above a number gives its extent
pub extent_of : (m n : ℕ) → m < 2 ^ n → 2 ^ n ≤ 2 * m + 1 → Extent (Bit m) n
extent_of m zero h l =
    record { below = λ q b. absurd (no_bit_from m 0 q h (omega arith) b); tight = inl refl }
extent_of m (suc j) h l =
    let s = pow-suc 2 j in
    record {
      below = λ q b. elim (cases_lt q (suc j)) [ inl x ↦ x | inr x ↦ absurd (no_bit_from m (suc j) q h x b) ];
      tight = inr (j, omega arith, top_bit m j (omega arith) h);
    }

pub no_bit : (q : ℕ) → Bit 0 q → ⊥
no_bit q = no_bit_from 0 0 q (omega arith) (omega arith)

pub no_bits : (m : ℕ) → m ≡ 0 → (q : ℕ) → Bit m q → ⊥
no_bits m e q b = no_bit q (ap (λ z. bit z q) (sym e) ∙ b)

min_one : (m n : ℕ) → m < 2 → n < 2 → eqb (min m n) 1 ≡ (eqb m 1 && eqb n 1)
min_one zero zero a b = refl
min_one zero (suc zero) a b = refl
min_one (suc zero) zero a b = refl
min_one (suc zero) (suc zero) a b = refl
min_one zero (suc (suc n)) a b = absurd (omega arith)
min_one (suc zero) (suc (suc n)) a b = absurd (omega arith)
min_one (suc (suc m)) n a b = absurd (omega arith)

pub bit_of_and : (a b j : ℕ) → bit (bit_and a b) j ≡ (bit a j && bit b j)
bit_of_and a b j = ap (λ z. eqb z 1) (bit_at_and a b j) ∙ min_one (bit_at a j) (bit_at b j) (bit_at-lt a j) (bit_at-lt b j)

-- the bits above the lowest are those of the half
bit_half : (m q : ℕ) → bit m (suc q) ≡ bit (m / 2) q
bit_half m q = ap (λ z. eqb z 1) (bit_at-suc m q)

-- the lowest of k bits is at the number of trailing zeros
pub record Lowest (k m : ℕ) : Type 0 where
  pub none_below : (q : ℕ) → q < count_trailing_zeros k m → Bit m q → ⊥
  pub there : count_trailing_zeros k m < k → Bit m (count_trailing_zeros k m)

lowest_step : (k m d : ℕ) → d ≡ m % 2 → Lowest k (m / 2) → ((q : ℕ) → q < under d (count_trailing_zeros k (m / 2)) → Bit m q → ⊥) × (under d (count_trailing_zeros k (m / 2)) < suc k → Bit m (under d (count_trailing_zeros k (m / 2))))
lowest_step k m zero e l = (none, λ h. bit_half m (count_trailing_zeros k (m / 2)) ∙ l.there (omega arith))
  where
    none : (q : ℕ) → q < suc (count_trailing_zeros k (m / 2)) → Bit m q → ⊥
    none zero h b = let z : ◌≡◌ {A = ℕ} 0 1 = e ∙ eqb-true (m % 2) 1 (ap (λ z. eqb (z % 2) 1) (sym (div-one m)) ∙ b) in omega arith
    none (suc q) h b = l.none_below q (omega arith) (sym (bit_half m q) ∙ b)
lowest_step k m (suc d) e l =
    (λ q h b. omega arith, λ h. ap (λ z. eqb (z % 2) 1) (div-one m) ∙ eq-eqb (m % 2) 1 (omega arith))

pub lowest : (k m : ℕ) → Lowest k m
unfolding count_trailing_zeros
lowest zero m = record { none_below = λ q h b. omega arith; there = λ h. absurd (omega arith) }
lowest (suc k) m = let s = lowest_step k m (m % 2) refl (lowest k (m / 2)) in record { none_below = s.0; there = s.1 }

-- a number that is not 0 has a bit
pub some_bit : (m : ℕ) → (m ≡ 0 → ⊥) → (q : ℕ) × Bit m q
some_bit m n =
    let t = leading_top m m (omega arith) (below_power m) in (t.0, top_bit m t.0 t.2 t.3)

-- a number with one bit set, and one with more
low_bit : (m : ℕ) → m % 2 ≡ 1 → Bit m 0
low_bit m e = eq-eqb (bit_at m 0) 1 (bit_at_lowest m ∙ e)

bit_low : (m : ℕ) → Bit m 0 → m % 2 ≡ 1
bit_low m b = sym (bit_at_lowest m) ∙ eqb-true (bit_at m 0) 1 b

one_in : (d m : ℕ) → m ≤ d → ones m ≡ 1 → (q : ℕ) × (Bit m q) × ((p : ℕ) → Bit m p → q ≡ p)
one_in zero m h e = let l = ones_le_self m in absurd (omega arith)
one_in (suc d) m h e =
    let s = ones_step m in
    elim (cases_eq (m % 2) 1) [
      | inl o ↦ (0, low_bit m o, top o)
      | inr n ↦
          let x = one_in d (m / 2) (omega arith) (omega arith) in
          (suc x.0, bit_half m x.0 ∙ x.1, rest n x.0 x.2)
    ]
  where
    top : m % 2 ≡ 1 → (p : ℕ) → Bit m p → 0 ≡ p
    top o zero b = refl
    top o (suc p) b =
        let s = ones_step m in
        let z : ones (m / 2) ≡ 0 = omega arith in
        absurd (no_bits (m / 2) (zero_from_ones (m / 2) z) p (sym (bit_half m p) ∙ b))

    rest : (m % 2 ≡ 1 → ⊥) → (q : ℕ) → ((p : ℕ) → Bit (m / 2) p → q ≡ p) → (p : ℕ) → Bit m p → suc q ≡ p
    rest n q all zero b = absurd (n (bit_low m b))
    rest n q all (suc p) b = ap suc (all p (sym (bit_half m p) ∙ b))

pub one_bit : (m : ℕ) → ones m ≡ 1 → (q : ℕ) × (Bit m q) × ((p : ℕ) → Bit m p → q ≡ p)
one_bit m e = one_in m m (omega arith) e

two_in : (d m : ℕ) → m ≤ d → 2 ≤ ones m → (p q : ℕ) × (p ≡ q → ⊥) × (Bit m p) × (Bit m q)
two_in zero m h e = let l = ones_le_self m in absurd (omega arith)
two_in (suc d) m h e =
    let s = ones_step m in
    elim (cases_eq (m % 2) 1) [
      | inl o ↦
          let x = some_bit (m / 2) (λ z. let l : ones (m / 2) ≤ m / 2 = ones_le_self (m / 2) in omega arith) in
          (0, suc x.0, (λ z. omega arith), low_bit m o, bit_half m x.0 ∙ x.1)
      | inr n ↦
          let x = two_in d (m / 2) (omega arith) (omega arith) in
          (suc x.0, suc x.1, (λ z. x.2 (omega arith)), bit_half m x.0 ∙ x.3, bit_half m x.1 ∙ x.4)
    ]

pub two_bits : (m : ℕ) → 2 ≤ ones m → (p q : ℕ) × (p ≡ q → ⊥) × (Bit m p) × (Bit m q)
two_bits m e = two_in m m (omega arith) e

pub same_truth : (b c : Bool) → (b ≡ true → c ≡ true) → (c ≡ true → b ≡ true) → b ≡ c
same_truth true c f g = sym (f refl)
same_truth false true f g = g refl
same_truth false false f g = refl
