use Rattle.std.proofs.Common.{◌-◌}
use Rattle.record.specs.Text.{Seeking}
use Rattle.record.proofs.text.seek.Given as goal

abbrev pub invariant-loop-at : goal.invariant-loop-at
invariant-loop-at l = Seeking l.bytes l.offset l.at l.end

abbrev pub decreases-loop-at : goal.decreases-loop-at
decreases-loop-at l = l.end - l.at
