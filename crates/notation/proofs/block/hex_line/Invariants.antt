use Rattle.notation.specs.Scan.{rest}
use Rattle.notation.proofs.block.hex_line.Given as goal

abbrev pub decreases-loop-cursor : goal.decreases-loop-cursor
decreases-loop-cursor l = rest l.cursor
