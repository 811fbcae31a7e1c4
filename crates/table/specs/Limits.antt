-- The limits of a table, each stated here alone.
use Rattle.std.specs.Prelude.{ℕ}

-- the most rules
abbrev pub max_rules : ℕ
max_rules = 256

-- the place that the refusal of a start or final state names
abbrev pub sets_place : ℕ
sets_place = 257

-- the states of a form and of a pattern are below
abbrev pub form_states : ℕ
form_states = 32

abbrev pub pattern_states : ℕ
pattern_states = 64

-- how many numbers of scratch each place of a run uses
abbrev pub per_place : ℕ
per_place = 3
