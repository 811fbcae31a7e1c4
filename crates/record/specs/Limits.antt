-- The limits of a record and of a run, each stated here alone.
use Rattle.std.specs.Prelude.{ℕ}

abbrev pub max_bytes : ℕ
max_bytes = 16384

abbrev pub max_nodes : ℕ
max_nodes = 1024

abbrev pub max_levels : ℕ
max_levels = 64

-- the highest place of a run
abbrev pub max_place : ℕ
max_place = 400000
