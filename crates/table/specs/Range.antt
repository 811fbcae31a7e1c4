-- Classes as ranges of kinds.
use Rattle.std.specs.Prelude.{◌≡◌, ℕ, ◌<◌, ◌≤◌, max, Bool, ◌&&◌, Result, MatchResult, nat_le}
use Rattle.table.specs.declared.range.Range.{Range}
use Rattle.table.specs.ClassFault.{ClassFault, no_kinds}

-- from the first to the last kind; a first above the last stands for the first alone
abbrev pub range_kinds : ℕ → ℕ → ℕ → Bool
range_kinds first last k = nat_le first k && nat_le k (max first last)

-- a range is made of the two as they are, and refused if the first is above the last
abbrev pub MakesRange : ℕ → ℕ → Result Range ClassFault → Type 0
MakesRange first last r =
    MatchResult r (λ x. (first ≤ last) × (x.first ≡ first) × (x.last ≡ last)) (λ e. (last < first) × (e ≡ no_kinds))
