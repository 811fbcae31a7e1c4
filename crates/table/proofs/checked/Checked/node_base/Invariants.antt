use Rattle.std.proofs.Common.{Some}
use Rattle.table.specs.Table.{tab}
use Rattle.table.specs.Counting.{Sets, sets}
use Rattle.table.proofs.Firsts.{Entering, Telling}
use Rattle.table.proofs.checked.Checked.node_base.Given as goal

-- the sets tell of the node rules so far
abbrev pub invariant-loop-rule : goal.invariant-loop-rule
invariant-loop-rule g l =
    (h : Sets) → Telling g.C.Class.kinds (tab l.self.table) h (sets l.inside) (sets l.after) (Some l.kind) (Entering l.rule-index) (sets l.base)
