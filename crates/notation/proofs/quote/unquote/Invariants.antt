use Rattle.std.proofs.Common.{◌-◌, ◌≤◌, length, vec_items}
use Rattle.std.specs.List.{between}
use Rattle.notation.specs.Quote.{Spells}
use Rattle.notation.proofs.quote.unquote.Given as goal

abbrev pub invariant-loop-piece : goal.invariant-loop-piece
invariant-loop-piece l =
    (l.from ≤ l.end) × (l.end ≤ length l.line) × Spells (between l.from l.end l.line) (vec_items l.bytes)

abbrev pub decreases-loop-piece : goal.decreases-loop-piece
decreases-loop-piece l = length l.line - l.end
