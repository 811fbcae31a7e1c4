use Rattle.std.proofs.Common.{◌≤◌}
use Rattle.record.specs.Run.{Spans}
use Rattle.table.specs.Table.{tab}
use Rattle.table.proofs.Passing.{LitAbove}
use Rattle.table.proofs.walk.Walk.list.Given as goal

-- the places above are listed
abbrev pub invariant-loop-place : goal.invariant-loop-place
invariant-loop-place g l =
    (l.place ≤ l.self.top)
    × (Spans (g.R.Runs.seen l.self.run.now) 0 l.self.top l.self.top → LitAbove g.C.Class.kinds (tab l.self.checked.table) (g.R.Runs.seen l.self.run.now) l.self.top l.place l.scratch)
