-- The limits of a box, each stated here alone.
use Rattle.std.specs.Prelude.{ℕ}

abbrev pub max_patterns : ℕ
max_patterns = 16

abbrev pub max_records : ℕ
max_records = 64

-- the highest mark
abbrev pub max_mark : ℕ
max_mark = 15

-- how many numbers of scratch a box's calls need
abbrev pub scratch_needs : ℕ
scratch_needs = 3075
