use Rattle.table.specs.Sets.{bit}
use Rattle.table.specs.Table.{tab}
use Rattle.table.proofs.Gathering.{Collected}
use Rattle.table.proofs.Leading.{LeadsBy}
use Rattle.table.proofs.checked.Checked.sources.Given as goal

-- the states from which one of the rules so far leads on
abbrev pub invariant-loop-rule : goal.invariant-loop-rule
invariant-loop-rule g l = Collected (LeadsBy g.C.Class.kinds (tab l.self.table) l.kind (bit l.inside) (bit l.after)) l.rule-index (bit l.found)
