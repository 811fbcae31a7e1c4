use Rattle.std.proofs.Common.{vec_len}
use Rattle.notation.proofs.write.close.Given as goal

abbrev pub decreases-loop-out : goal.decreases-loop-out
decreases-loop-out l = vec_len l.ends
