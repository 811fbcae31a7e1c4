use Rattle.table.specs.Table.{tab}
use Rattle.table.specs.Scratch.{Fitted}
use Rattle.table.proofs.fits.fits.Given as goal

-- the places so far are right
abbrev pub invariant-loop-place : goal.invariant-loop-place
invariant-loop-place g l = Fitted g.C.Class.kinds (tab l.walk.checked.table) (g.R.Runs.seen l.walk.run.now) l.scratch l.place
