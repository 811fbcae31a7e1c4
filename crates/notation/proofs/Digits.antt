-- The digits of a word one after another.
use Rattle.std.proofs.Common.{◌≡◌, ℕ, ◌+◌, ◌-◌, ◌*◌, ◌<◌, ◌≤◌, List, length, get_or, take, sym, ap, ◌∙◌, subst, arith}
use Rattle.std.specs.Str.Parse.{AllDigits, digits_value}
use Rattle.std.specs.Char.{digit_value}
use Rattle.std.proofs.lemmas.Int.Digits.{digits_value_more, digits_more}
use Rattle.std.proofs.lemmas.Bool.Decides.{nat_tests}

value_of_digit : (d : ℕ) → 48 ≤ d → d ≤ 57 → digit_value d ≡ d - 48
value_of_digit d h g = grind (arith, nat_tests)

pub value_step : (word : List ℕ) (i n d : ℕ) → i < length word → d ≡ get_or word i 0 → 48 ≤ d → d ≤ 57 → n ≡ digits_value 10 (take i word) → n * 10 + (d - 48) ≡ digits_value 10 (take (i + 1) word)
value_step word i n d l e h g p =
    let v : digit_value d ≡ d - 48 = value_of_digit d h g in
    sym (digits_value_more 10 word i l ∙ (ap (λ (k : ℕ). k * 10 + digit_value (get_or word i 0)) (sym p) ∙ ap (λ (k : ℕ). n * 10 + k) (ap digit_value (sym e) ∙ v)))

pub digits_step : (word : List ℕ) (i d : ℕ) → i < length word → d ≡ get_or word i 0 → 48 ≤ d → d ≤ 57 → AllDigits 10 (take i word) → AllDigits 10 (take (i + 1) word)
digits_step word i d l e h g p =
    let v : digit_value d ≡ d - 48 = value_of_digit d h g in
    digits_more 10 word i l p (subst (λ (k : ℕ). digit_value k < 10) e (omega arith))
