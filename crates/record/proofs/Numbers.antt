-- Numbers in bytes.
use Rattle.std.proofs.Common.{◌≡◌, ℕ, zero, suc, ◌+◌, ◌*◌, ◌/◌, ◌%◌, ◌^◌, ◌<◌, ◌≤◌, List, [], ◌∷◌, length, get_or, refl, ap, ◌∙◌, ap₂, arith}
use Rattle.record.specs.Numbers.{Bytes, le, value, between, NumbersKept}
use Rattle.record.proofs.Slices.{between_more, between_none}

pub length_le : (k n : ℕ) → length (le k n) ≡ k
unfolding le
length_le zero n = refl
length_le (suc k) n = ap suc (length_le k (n / 256))

pub bytes_le : (k n : ℕ) → Bytes (le k n)
unfolding le
bytes_le zero n = tt
bytes_le (suc k) n = (omega arith, bytes_le k (n / 256))

pub value_le : (k n : ℕ) → n < 256 ^ k → value (le k n) ≡ n
unfolding le value
value_le zero n h = omega arith
value_le (suc k) n h = let e = value_le k (n / 256) (omega arith) in omega arith

one_more : (b v k : ℕ) → b < 256 → v < 256 ^ k → b + 256 * v < 256 ^ suc k
one_more b v k h g = omega arith

pub value_bound : (bs : List ℕ) → Bytes bs → value bs < 256 ^ length bs
unfolding value
value_bound [] h = omega arith
value_bound (b ∷ bs) h = one_more b (value bs) (length bs) h.0 (value_bound bs h.1)

pub le_value : (bs : List ℕ) → Bytes bs → le (length bs) (value bs) ≡ bs
unfolding le value
le_value [] h = refl
le_value (b ∷ bs) h =
    let low : (b + 256 * value bs) % 256 ≡ b = omega (arith, h.0) in
    let high : (b + 256 * value bs) / 256 ≡ value bs = omega (arith, h.0) in
    ap₂ {C = List ℕ} ◌∷◌ low (ap (le (length bs)) high ∙ le_value bs h.1)

pub value_reads : (bytes : List ℕ) (a b : ℕ) → a < b → b ≤ length bytes → value (between bytes a b) ≡ get_or bytes a 0 + 256 * value (between bytes (a + 1) b)
unfolding value
value_reads bytes a b h l = ap value (between_more bytes a b h l)

pub value_none : (bytes : List ℕ) (a : ℕ) → value (between bytes a a) ≡ 0
unfolding value
value_none bytes a = ap value (between_none bytes a a (omega arith))

pub numbers_kept : NumbersKept
numbers_kept = record { long = length_le; bytes = bytes_le; back = value_le; again = le_value; bound = value_bound; reads = value_reads; reads_none = value_none }

-- numbers of two and of four bytes, as a program reads them
pub half_at : (bytes : List ℕ) (o p q : ℕ) → o + 1 ≡ p → p + 1 ≡ q → q ≤ length bytes → value (between bytes o q) ≡ get_or bytes o 0 + get_or bytes p 0 * 256
half_at bytes o p q d e h =
    let a = value_reads bytes o q (omega arith) h in
    let a' = ap (λ n. value (between bytes n q)) d in
    let b = value_reads bytes p q (omega arith) h in
    let b' = ap (λ n. value (between bytes n q)) e in
    let z = value_none bytes q in
    omega arith

pub word_at : (bytes : List ℕ) (o : ℕ) → o + 4 ≤ length bytes
    → value (between bytes o (o + 4)) ≡ get_or bytes o 0 + get_or bytes (o + 1) 0 * 256 + get_or bytes (o + 2) 0 * 65536 + get_or bytes (o + 3) 0 * 16777216
word_at bytes o h =
    let e₂ : (o + 1) + 1 ≡ o + 2 = omega arith in
    let e₃ : (o + 2) + 1 ≡ o + 3 = omega arith in
    let a = value_reads bytes o (o + 4) (omega arith) h in
    let b = value_reads bytes (o + 1) (o + 4) (omega arith) h in
    let b' = ap (λ n. value (between bytes n (o + 4))) e₂ in
    let c = value_reads bytes (o + 2) (o + 4) (omega arith) h in
    let c' = ap (λ n. value (between bytes n (o + 4))) e₃ in
    let d = half_at_end in
    omega arith
  where
    half_at_end : value (between bytes (o + 3) (o + 4)) ≡ get_or bytes (o + 3) 0
    half_at_end =
        let e : (o + 3) + 1 ≡ o + 4 = omega arith in
        let a = value_reads bytes (o + 3) (o + 4) (omega arith) h in
        let z = ap (λ n. value (between bytes n (o + 4))) e ∙ value_none bytes (o + 4) in
        omega arith
