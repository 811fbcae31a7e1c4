-- Sets of kinds.
use Rattle.std.specs.Prelude.{◌≡◌, ℕ, ◌^◌, ◌<◌, Bool, false, ◌&&◌, Some, None, Option}

-- a kind is a number of 16 bits
abbrev pub Kind : ℕ → Type 0
Kind k = k < 2 ^ 16

-- the class of the kinds in both, or nothing if there are none
abbrev pub Meets : {C : Type 0} → (C → ℕ → Bool) → C → C → Option C → Type 0
Meets kinds a b None = (k : ℕ) → Kind k → (kinds a k && kinds b k) ≡ false
Meets kinds a b (Some c) = (k : ℕ) → Kind k → kinds c k ≡ (kinds a k && kinds b k)
