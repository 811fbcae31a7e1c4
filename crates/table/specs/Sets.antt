-- Sets of states as numbers, a bit for each state.
use Rattle.std.specs.Prelude.{◌≡◌, ℕ, ◌+◌, ◌/◌, ◌%◌, ◌^◌, ◌<◌, Bool, true, ◌⊎◌, ◌==◌}

abbrev pub bit : ℕ → ℕ → Bool
bit m k = m / 2 ^ k % 2 == 1

-- state k is in the set m
abbrev pub Bit : ℕ → ℕ → Type 0
Bit m k = bit m k ≡ true

-- n is one above the highest number for which P holds, 0 if it holds for none
pub record Extent (P : ℕ → Type 0) (n : ℕ) : Type 0 where
  pub below : (q : ℕ) → P q → q < n
  pub tight : (n ≡ 0) ⊎ ((q : ℕ) × (n ≡ q + 1) × P q)
