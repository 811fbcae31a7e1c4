use Rattle.std.proofs.Common.{take}
use Rattle.replay.specs.Written.{RulesWritten}
use Rattle.replay.proofs.rules.rules_of.Given as goal

abbrev pub invariant-loop-number : goal.invariant-loop-number
invariant-loop-number g l = RulesWritten g.C.Written.writes (take l.number l.text.rules.items) l.rules.items
