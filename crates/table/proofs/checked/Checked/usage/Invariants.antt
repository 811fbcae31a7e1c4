use Rattle.table.specs.Sets.{bit}
use Rattle.table.specs.Table.{tab}
use Rattle.table.proofs.Gathering.{Collected}
use Rattle.table.proofs.Using.{InsideBy, AfterBy, MarkedBy}
use Rattle.table.proofs.checked.Checked.usage.Given as goal

-- what the rules in use so far pass on
abbrev pub invariant-loop-rule : goal.invariant-loop-rule
invariant-loop-rule g l =
    (Collected (InsideBy g.C.Class.kinds (tab l.self.table) l.kind (bit l.live) (bit l.inside) (bit l.after)) l.rule-index (bit l.all.inside))
    × (Collected (AfterBy g.C.Class.kinds (tab l.self.table) l.kind (bit l.live) (bit l.inside) (bit l.after)) l.rule-index (bit l.all.after))
    × (Collected (MarkedBy g.C.Class.kinds (tab l.self.table) l.kind (bit l.live) (bit l.inside) (bit l.after)) l.rule-index (bit l.all.marks))
