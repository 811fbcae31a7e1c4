use Rattle.std.proofs.Common.{◌-◌, ◌^◌, ◌<◌}
use Rattle.table.specs.Table.{tab}
use Rattle.table.proofs.Using.{Living}
use Rattle.table.proofs.checked.Checked.alive.Given as goal

abbrev pub invariant-loop-live : goal.invariant-loop-live
invariant-loop-live g l = (l.live < 2 ^ 64) × (Living (tab l.self.table) l.some l.enter l.live)

abbrev pub decreases-loop-live : goal.decreases-loop-live
decreases-loop-live g l = 2 ^ 64 - l.live
