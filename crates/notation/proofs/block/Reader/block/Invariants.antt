use Rattle.std.proofs.Common.{◌≡◌, ◌≤◌}
use Rattle.notation.specs.Scan.{left}
use Rattle.notation.proofs.block.Reader.block.Given as goal

abbrev pub invariant-loop-cursor : goal.invariant-loop-cursor
invariant-loop-cursor g l = (l.self.source.text.now ≡ l.initial.self.source.text.now) × (l.initial.self.source.at ≤ l.self.source.at)

abbrev pub decreases-loop-cursor : goal.decreases-loop-cursor
decreases-loop-cursor g l = left l.self.source
