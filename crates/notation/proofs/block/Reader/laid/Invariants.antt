use Rattle.notation.specs.Scan.{left}
use Rattle.notation.proofs.block.Reader.laid.Given as goal

abbrev pub decreases-loop-cursor : goal.decreases-loop-cursor
decreases-loop-cursor l = left l.self.source
