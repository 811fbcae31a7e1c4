-- Tables as values.
use Rattle.std.specs.Prelude.{◌≡◌, ℕ, ◌<◌, List, length, slice_index_or}
use Rattle.table.specs.declared.rule.Rule.{Rule}
use Rattle.table.specs.declared.table.Table.{Table}

-- sets of start and of final states, and rules
pub record Tab (C : Type 0) : Type 0 where
  pub starts : ℕ
  pub finals : ℕ
  pub rules : List (Rule C)

-- the table that is lent
abbrev pub tab : {C : Type 0} → Table C → Tab C
tab t = record { starts = t.starts; finals = t.finals; rules = t.rules.now }

-- element i of a list is x
abbrev pub At : {A : Type 0} → List A → ℕ → A → Type 0
At xs i x = (i < length xs) × (slice_index_or xs i x ≡ x)
