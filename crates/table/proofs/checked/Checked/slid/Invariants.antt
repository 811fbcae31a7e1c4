use Rattle.table.specs.Sets.{bit}
use Rattle.table.specs.Table.{tab}
use Rattle.table.proofs.Gathering.{Collected}
use Rattle.table.proofs.Using.{SlidesBy}
use Rattle.table.proofs.checked.Checked.slid.Given as goal

-- the states to which the empty rules so far lead
abbrev pub invariant-loop-rule : goal.invariant-loop-rule
invariant-loop-rule g l = Collected (SlidesBy (tab l.self.table) (bit l.some) (bit l.live)) l.rule-index (bit l.found)
