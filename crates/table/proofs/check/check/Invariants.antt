use Rattle.std.proofs.Common.{ℕ, ◌<◌}
use Rattle.table.specs.declared.rule.Rule.{Rule}
use Rattle.table.specs.Table.{At}
use Rattle.table.specs.Check.{SoundRule}
use Rattle.table.proofs.check.check.Given as goal

-- the rules so far are sound
abbrev pub invariant-loop-i : goal.invariant-loop-i
invariant-loop-i g l = (j : ℕ) (x : Rule g.row.C.Denot) → j < l.i → At l.table.rules.now j x → SoundRule l.role x
