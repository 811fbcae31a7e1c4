-- The refusals of the table layer: the number of each.
use Rattle.std.specs.Prelude.{ℕ}
use Rattle.table.specs.declared.fault.Role.{Role}
use Rattle.table.specs.declared.fault.Cause.{Cause}
use Rattle.table.specs.declared.fault.Cause.TheVariants.{Bounds, EmptyRule, ShortBuffer, Double}
use Rattle.table.specs.declared.fault.Fault.{Fault}

abbrev pub number : Cause → ℕ
number Bounds = 6
number EmptyRule = 7
number ShortBuffer = 8
number Double = 12

-- a refusal at a place
abbrev pub refusal : Role → Cause → ℕ → Fault
refusal r c p = record { role = r; cause = c; place = p }
