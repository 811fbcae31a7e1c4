-- What the sets of a run tell at the start states.
use Rattle.std.specs.Prelude.{◌≡◌, ℕ, zero, suc, true, ◌⊎◌, ◌≢◌}
use Rattle.table.specs.Sets.{Bit}
use Rattle.table.specs.Counting.{Sets}

-- no start state has a reading; one has, and not two; one has two, or two have one each
abbrev pub Tells : ℕ → Sets → ℕ → Type 0
Tells starts S zero = (q : ℕ) → Bit starts q → S.some q ≢ true
Tells starts S (suc zero) =
    (q : ℕ) × (Bit starts q) × (S.some q ≡ true) × (S.many q ≢ true) × ((p : ℕ) → Bit starts p → S.some p ≡ true → q ≡ p)
Tells starts S (suc (suc zero)) =
    ((q : ℕ) × (Bit starts q) × (S.many q ≡ true))
    ⊎ ((p q : ℕ) × (p ≢ q) × (Bit starts p) × (Bit starts q) × (S.some p ≡ true) × (S.some q ≡ true))
Tells starts S (suc (suc (suc n))) = ⊥
