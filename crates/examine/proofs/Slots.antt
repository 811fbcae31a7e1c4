-- Each fact has a number of its own, and how many numbers are not 0.
use Rattle.std.proofs.Common.{◌≡◌, ℕ, zero, suc, ◌+◌, ◌*◌, ◌/◌, ◌%◌, ◌<◌, ◌≤◌, cond, ◌⊎◌, List, length, get_or, set, sym, refl, ap, ◌∙◌, inl, inr, mul-le-mul, arith}
use lib.Arith.{digits_lt, digits_div, digits_mod}
use Rattle.std.proofs.lemmas.List.{get_or-set_same, get_or-set_other, length-set}
use Rattle.std.proofs.lemmas.Bool.{cases_eq, eq-eqb, ne_eqb}
use Rattle.examine.specs.declared.fact.Sort.{Sort}
use Rattle.examine.specs.declared.fact.Sort.TheVariants.{Together, Poised, Apart}
use Rattle.examine.specs.declared.fact.Fact.{Fact}
use Rattle.examine.specs.Search.{Setting, Low, code, slot, noted, most, one_if, count}

code_low : (x : Sort) → code x < 3
code_low Together = omega arith
code_low Poised = omega arith
code_low Apart = omega arith

pub slot_low : {C : Type 0} (G : Setting C) (x : Fact) → Low G x → slot G.forms G.states x < most G.forms G.states
slot_low G x l = digits_lt (digits_lt (digits_lt (code_low x.sort) l.0) l.1) l.2

pub most_few : (S Q : ℕ) → S ≤ 32 → Q ≤ 64 → most S Q ≤ 393216
most_few S Q a b =
    let s : 3 * S ≤ 96 = omega arith in
    let m : 3 * S * Q ≤ 96 * 64 = mul-le-mul s b in
    mul-le-mul m b

-- the parts of a number are small
pub form_part : {C : Type 0} (G : Setting C) (x : Fact) → Low G x → G.forms ≤ 32 → code x.sort * G.forms + x.form < 96
form_part G x l a = let h = digits_lt (code_low x.sort) l.0 in omega arith

pub first_part : {C : Type 0} (G : Setting C) (x : Fact) → Low G x → G.forms ≤ 32 → G.states ≤ 64 → (code x.sort * G.forms + x.form) * G.states + x.first < 6144
first_part G x l a b =
    let h = digits_lt (digits_lt (code_low x.sort) l.0) l.1 in
    let s : 3 * G.forms ≤ 96 = omega arith in
    let m : 3 * G.forms * G.states ≤ 96 * 64 = mul-le-mul s b in
    omega arith

code_same : (x y : Sort) → code x ≡ code y → x ≡ y
code_same Together Together e = refl
code_same Together Poised e = absurd (omega arith)
code_same Together Apart e = absurd (omega arith)
code_same Poised Together e = absurd (omega arith)
code_same Poised Poised e = refl
code_same Poised Apart e = absurd (omega arith)
code_same Apart Together e = absurd (omega arith)
code_same Apart Poised e = absurd (omega arith)
code_same Apart Apart e = refl

pair_same : (a b r s m : ℕ) → r < m → s < m → a * m + r ≡ b * m + s → (a ≡ b) × (r ≡ s)
pair_same a b r s m h k e =
    (sym (digits_div a h) ∙ (ap (λ (z : ℕ). z / m) e ∙ digits_div b k), sym (digits_mod a h) ∙ (ap (λ (z : ℕ). z % m) e ∙ digits_mod b k))

-- one number, one fact
pub slot_same : {C : Type 0} (G : Setting C) (x y : Fact) → Low G x → Low G y → slot G.forms G.states x ≡ slot G.forms G.states y → x ≡ y
slot_same G x y a b e =
    let u = pair_same _ _ x.second y.second G.states a.2 b.2 e in
    let v = pair_same _ _ x.first y.first G.states a.1 b.1 u.0 in
    let w = pair_same _ _ x.form y.form G.forms a.0 b.0 v.0 in
    let s = code_same x.sort y.sort w.0 in
    λ i. record { sort = s i; form = w.1 i; first = v.1 i; second = u.1 i }

pub noted_zero : (xs : List ℕ) (i v : ℕ) → get_or xs i 0 ≡ 0 → noted xs i v ≡ set xs i v
noted_zero xs i v e = ap (λ b. cond b (set xs i v) xs) (eq-eqb (get_or xs i 0) 0 e)

pub noted_full : (xs : List ℕ) (i v : ℕ) → 0 < get_or xs i 0 → noted xs i v ≡ xs
noted_full xs i v h = ap (λ b. cond b (set xs i v) xs) (ne_eqb (get_or xs i 0) 0 (λ e. omega arith))

pub zero_or : (n : ℕ) → (n ≡ 0) ⊎ (0 < n)
zero_or zero = inl refl
zero_or (suc n) = inr (omega arith)

pub noted_length : (xs : List ℕ) (i v : ℕ) → length (noted xs i v) ≡ length xs
noted_length xs i v =
    elim (zero_or (get_or xs i 0)) [
      | inl e ↦ ap length (noted_zero xs i v e) ∙ length-set xs i v
      | inr h ↦ ap length (noted_full xs i v h)
    ]

pub noted_keeps : (xs : List ℕ) (i v j : ℕ) → 0 < get_or xs j 0 → get_or (noted xs i v) j 0 ≡ get_or xs j 0
noted_keeps xs i v j h =
    elim (zero_or (get_or xs i 0)) [
      | inl e ↦ ap (λ ys. get_or ys j 0) (noted_zero xs i v e) ∙ get_or-set_other xs i j v 0 (λ z. let y : get_or xs j 0 ≡ 0 = ap (λ n. get_or xs n 0) z ∙ e in omega arith)
      | inr g ↦ ap (λ ys. get_or ys j 0) (noted_full xs i v g)
    ]

pub noted_at : (xs : List ℕ) (i v : ℕ) → 0 < v → i < length xs → 0 < get_or (noted xs i v) i 0
noted_at xs i v p l =
    elim (zero_or (get_or xs i 0)) [
      | inl e ↦ let y : get_or (noted xs i v) i 0 ≡ v = ap (λ ys. get_or ys i 0) (noted_zero xs i v e) ∙ get_or-set_same xs i v 0 l in omega arith
      | inr g ↦ let y : get_or (noted xs i v) i 0 ≡ get_or xs i 0 = ap (λ ys. get_or ys i 0) (noted_full xs i v g) in omega arith
    ]

pub noted_or : (xs : List ℕ) (i v j : ℕ) → i < length xs → 0 < get_or (noted xs i v) j 0 → (0 < get_or xs j 0) ⊎ ((j ≡ i) × (get_or (noted xs i v) j 0 ≡ v))
noted_or xs i v j l h =
    elim (zero_or (get_or xs i 0)) [
      | inl e ↦ elim (cases_eq j i) [
        | inl z ↦ inr (z, ap (λ ys. get_or ys j 0) (noted_zero xs i v e) ∙ (ap (λ n. get_or (set xs i v) n 0) z ∙ get_or-set_same xs i v 0 l))
        | inr d ↦ let y : get_or (noted xs i v) j 0 ≡ get_or xs j 0 = ap (λ ys. get_or ys j 0) (noted_zero xs i v e) ∙ get_or-set_other xs i j v 0 d in inl (omega arith)
      ]
      | inr g ↦ let y : get_or (noted xs i v) j 0 ≡ get_or xs j 0 = ap (λ ys. get_or ys j 0) (noted_full xs i v g) in inl (omega arith)
    ]

one_if_most : (n : ℕ) → one_if n ≤ 1
one_if_most zero = omega arith
one_if_most (suc n) = omega arith

one_if_some : (n : ℕ) → 0 < n → one_if n ≡ 1
one_if_some zero h = absurd (omega arith)
one_if_some (suc n) h = refl

pub count_most : (xs : List ℕ) (m : ℕ) → count xs m ≤ m
unfolding count
count_most xs zero = omega arith
count_most xs (suc m) = let a = count_most xs m in let b = one_if_most (get_or xs m 0) in omega arith

-- a number that is 0 leaves room
pub count_room : (xs : List ℕ) (m i : ℕ) → i < m → get_or xs i 0 ≡ 0 → count xs m < m
unfolding count
count_room xs zero i h e = absurd (omega arith)
count_room xs (suc m) i h e =
    elim (cases_eq i m) [
      | inl z ↦
          let a = count_most xs m in
          let b : one_if (get_or xs m 0) ≡ 0 = ap (λ n. one_if (get_or xs n 0)) (sym z) ∙ ap one_if e in
          omega arith
      | inr d ↦ let a = count_room xs m i (omega arith) e in let b = one_if_most (get_or xs m 0) in omega arith
    ]

count_above : (xs : List ℕ) (m i v : ℕ) → m ≤ i → count (set xs i v) m ≡ count xs m
unfolding count
count_above xs zero i v h = refl
count_above xs (suc m) i v h =
    let a = count_above xs m i v (omega arith) in
    let b : one_if (get_or (set xs i v) m 0) ≡ one_if (get_or xs m 0) = ap one_if (get_or-set_other xs i m v 0 (λ z. omega arith)) in
    omega arith

pub count_set : (xs : List ℕ) (m i v : ℕ) → i < m → i < length xs → get_or xs i 0 ≡ 0 → 0 < v → count (set xs i v) m ≡ count xs m + 1
unfolding count
count_set xs zero i v h l e p = absurd (omega arith)
count_set xs (suc m) i v h l e p =
    elim (cases_eq i m) [
      | inl z ↦
          let a = count_above xs m i v (omega arith) in
          let b : one_if (get_or xs m 0) ≡ 0 = ap (λ n. one_if (get_or xs n 0)) (sym z) ∙ ap one_if e in
          let c : one_if (get_or (set xs i v) m 0) ≡ 1 =
          ap (λ n. one_if (get_or (set xs i v) n 0)) (sym z) ∙ (ap one_if (get_or-set_same xs i v 0 l) ∙ one_if_some v p) in
          omega arith
      | inr d ↦
          let a = count_set xs m i v (omega arith) l e p in
          let b : one_if (get_or (set xs i v) m 0) ≡ one_if (get_or xs m 0) = ap one_if (get_or-set_other xs i m v 0 (λ z. omega arith)) in
          omega arith
    ]

pub count_noted : (xs : List ℕ) (m i v : ℕ) → i < m → i < length xs → 0 < v → count xs m ≤ count (noted xs i v) m
count_noted xs m i v h l p =
    elim (zero_or (get_or xs i 0)) [
      | inl e ↦ let a = count_set xs m i v h l e p in let b : count (noted xs i v) m ≡ count (set xs i v) m = ap (λ ys. count ys m) (noted_zero xs i v e) in omega arith
      | inr g ↦ let b : count (noted xs i v) m ≡ count xs m = ap (λ ys. count ys m) (noted_full xs i v g) in omega arith
    ]

pub count_new : (xs : List ℕ) (m i v : ℕ) → i < m → i < length xs → get_or xs i 0 ≡ 0 → 0 < v → count (noted xs i v) m ≡ count xs m + 1
count_new xs m i v h l e p = ap (λ ys. count ys m) (noted_zero xs i v e) ∙ count_set xs m i v h l e p
