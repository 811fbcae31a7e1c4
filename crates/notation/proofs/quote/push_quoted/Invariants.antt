use Rattle.std.proofs.Common.{take}
use Rattle.notation.specs.Quote.{Spells}
use Rattle.notation.specs.Writes.{Adds}
use Rattle.notation.proofs.quote.push_quoted.Given as goal

abbrev pub invariant-loop-byte : goal.invariant-loop-byte
invariant-loop-byte l = Adds l.initial.out l.out (λ s. Spells s (take l.byte-index l.bytes))
