use Rattle.std.proofs.Common.{◌+◌, ◌-◌, ◌^◌, ◌<◌}
use Rattle.table.specs.Table.{tab}
use Rattle.table.specs.Counting.{sets}
use Rattle.table.proofs.Rounds.{Sounds}
use Rattle.table.proofs.checked.Checked.settle.Given as goal

-- the sets so far are sound
abbrev pub invariant-loop-base : goal.invariant-loop-base
invariant-loop-base g l =
    (l.here.some < 2 ^ 64) × (l.here.many < 2 ^ 64)
    × (Sounds g.C.Class.kinds (tab l.self.table) (sets l.base) (sets l.here))

abbrev pub decreases-loop-base : goal.decreases-loop-base
decreases-loop-base g l = 2 ^ 65 - (l.here.some + l.here.many)
