use Rattle.std.proofs.Common.{◌+◌, ◌-◌, ◌*◌}
use Rattle.record.proofs.fill.+filling.Given as goal

abbrev pub decreases-fill_node : goal.decreases-fill_node
decreases-fill_node l = 2 * (l.end - l.at)

abbrev pub decreases-fill_run : goal.decreases-fill_run
decreases-fill_run l = 2 * (l.end - l.at) + 1
