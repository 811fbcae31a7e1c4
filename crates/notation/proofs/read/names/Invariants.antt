use Rattle.std.proofs.Common.{◌≡◌, ◌≤◌}
use Rattle.notation.specs.Scan.{left}
use Rattle.notation.proofs.read.names.Given as goal

abbrev pub invariant-loop-cursor : goal.invariant-loop-cursor
invariant-loop-cursor l = (l.source.text.now ≡ l.initial.source.text.now) × (l.initial.source.at ≤ l.source.at)

abbrev pub decreases-loop-cursor : goal.decreases-loop-cursor
decreases-loop-cursor l = left l.source
