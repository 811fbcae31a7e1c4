-- Why the places of a sheet up to a top are those of a run.
use Rattle.std.specs.Prelude.{◌≡◌, ℕ, ◌<◌, Bool, true, false, cond, List, Some, None, Option, nat_le}
use Rattle.std.proofs.Common.{arith}
use Rattle.std.proofs.lemmas.Bool.Decides.{nat_tests}
use Rattle.record.specs.declared.run.Node.{Node}
use Rattle.record.specs.Run.{Lower, Places}
use Rattle.record.proofs.Looks.{left_is_lower}
use Rattle.examine.specs.declared.line.Line.{Line}
use Rattle.examine.specs.Lines.{line_at}
use Rattle.examine.specs.Sheet.{lower_only, lowered, shown}

left_lower : (p : ℕ) (o : Option Node) (n : Node) → lower_only p o ≡ Some n → (n.inside < p) × (n.after < p)
left_lower p None n e = grind arith
left_lower p (Some m) n e = left_is_lower p m n e

pub shown_lower : (sheet : List Line) (top : ℕ) → Lower (shown sheet top)
shown_lower sheet top p n e = go (nat_le p (lowered sheet top)) e
  where
    go : (b : Bool) → cond b (lower_only p (line_at sheet p).run) None ≡ Some n → (n.inside < p) × (n.after < p)
    go true d = left_lower p (line_at sheet p).run n d
    go false d = grind arith

nothing_above : (sheet : List Line) (top p : ℕ) → lowered sheet top < p → shown sheet top p ≡ None
nothing_above sheet top p h = grind (arith, nat_tests)

pub shown_places : (sheet : List Line) (top : ℕ) → Places (lowered sheet top) (shown sheet top)
shown_places sheet top = record { few = omega arith; lower = shown_lower sheet top; ends = nothing_above sheet top }
