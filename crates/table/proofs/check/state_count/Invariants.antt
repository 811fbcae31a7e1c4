use Rattle.table.specs.Sets.{Extent}
use Rattle.table.specs.Table.{tab}
use Rattle.table.proofs.Checking.{NamedBy}
use Rattle.table.proofs.check.state_count.Given as goal

-- the extent of what the ends and the rules so far name
abbrev pub invariant-loop-rule : goal.invariant-loop-rule
invariant-loop-rule g l = Extent (NamedBy (tab l.table) l.rule-index) l.count
