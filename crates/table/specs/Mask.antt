-- Classes as masks of 64 bits.
use Rattle.std.specs.Prelude.{◌≡◌, ℕ, Bool, cond, Result, MatchResult, ◌==◌, ◌≢◌}
use Rattle.table.specs.declared.mask.Mask.{Mask}
use Rattle.table.specs.ClassFault.{ClassFault, no_kinds}
use Rattle.table.specs.Sets.{bit}

-- no bit at all stands for kind 0 alone
abbrev pub meant : ℕ → ℕ
meant m = cond (m == 0) 1 m

-- bit k stands for kind k
abbrev pub mask_kinds : ℕ → ℕ → Bool
mask_kinds m k = bit (meant m) k

-- a mask is made of the bits as they are, and refused if there are none
abbrev pub MakesMask : ℕ → Result Mask ClassFault → Type 0
MakesMask m r = MatchResult r (λ x. (m ≢ 0) × (x.bits ≡ m)) (λ e. (m ≡ 0) × (e ≡ no_kinds))
