use Rattle.std.proofs.Common.{◌≡◌, ◌≤◌}
use Rattle.notation.specs.Scan.{left}
use Rattle.notation.proofs.scan.Source.next.Given as goal

abbrev pub invariant-loop-cursor : goal.invariant-loop-cursor
invariant-loop-cursor l = (l.self.text.now ≡ l.initial.self.text.now) × (l.initial.self.at ≤ l.self.at)

abbrev pub decreases-loop-cursor : goal.decreases-loop-cursor
decreases-loop-cursor l = left l.self
