-- Sets of small numbers as bits.
use Rattle.std.proofs.Common.{ℕ, ◌*◌, ◌^◌, ◌%◌, ◌<◌, arith}
use Rattle.std.proofs.Math.Pow.{pow-lt}

-- the bit of a member below n, shifted there in 64 bits, is below 2 ^ n
pub bit_below : (n member : ℕ) → member < n → 1 * 2 ^ member % 18446744073709551616 < 2 ^ n
bit_below n member h = let p : 2 ^ member < 2 ^ n = pow-lt h in omega arith
