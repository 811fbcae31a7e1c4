use Rattle.table.specs.Table.{tab}
use Rattle.table.specs.Scratch.{Filled}
use Rattle.table.proofs.walk.Walk.count.Given as goal

-- the places so far are right
abbrev pub invariant-loop-place : goal.invariant-loop-place
invariant-loop-place g l = Filled g.C.Class.kinds (tab l.self.checked.table) (g.R.Runs.seen l.self.run.now) l.scratch l.place
