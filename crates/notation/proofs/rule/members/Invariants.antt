use Rattle.std.proofs.Common.{◌^◌, ◌<◌}
use Rattle.notation.specs.Scan.{rest}
use Rattle.notation.proofs.rule.members.Given as goal

abbrev pub invariant-loop-member : goal.invariant-loop-member
invariant-loop-member g l = l.set < 2 ^ l.size

abbrev pub decreases-loop-member : goal.decreases-loop-member
decreases-loop-member g l = rest l.cursor
