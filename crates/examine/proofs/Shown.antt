-- What the places of a sheet up to a top show.
use Rattle.std.proofs.Common.{◌≡◌, ℕ, ◌<◌, ◌≤◌, cond, ltb, List, Some, None, ap}
use Rattle.std.proofs.lemmas.Bool.{le-leb, lt-ltb, and_from}
use Rattle.record.specs.declared.run.Node.{Node}
use Rattle.examine.specs.declared.line.Line.{Line}
use Rattle.examine.specs.Lines.{line_at}
use Rattle.examine.specs.Sheet.{lower_only, lowered, shown}

pub shown_at : (sheet : List Line) (top p : ℕ) → p ≤ lowered sheet top → shown sheet top p ≡ lower_only p (line_at sheet p).run
shown_at sheet top p h = ap (λ b. cond b (lower_only p (line_at sheet p).run) None) (le-leb p (lowered sheet top) h)

pub lower_some : (p : ℕ) (n : Node) → n.inside < p → n.after < p → lower_only p (Some n) ≡ Some n
lower_some p n i a = ap (λ b. cond b (Some n) None) (and_from (ltb n.inside p) (ltb n.after p) (lt-ltb n.inside p i) (lt-ltb n.after p a))
