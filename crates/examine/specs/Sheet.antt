-- A sheet of lines as a run: place k is line k.
use Rattle.std.specs.Prelude.{ℕ, ◌-◌, min, cond, List, length, Some, None, Option, nat_le}
use Rattle.record.specs.declared.run.Node.{Node}
use Rattle.record.specs.Limits.{max_place}
use Rattle.record.specs.Run.{if_lower}
use Rattle.examine.specs.declared.line.Line.{Line}
use Rattle.examine.specs.Lines.{line_at}

-- a line that names a line not lower than its own counts as empty
abbrev pub lower_only : ℕ → Option Node → Option Node
lower_only p None = None
lower_only p (Some n) = if_lower p n

-- a top above the last line, 0 if there is none, or above the highest place is lowered to the smaller
abbrev pub lowered : List Line → ℕ → ℕ
lowered sheet top = min top (min (length sheet - 1) max_place)

-- what the places of a sheet up to a top show
abbrev pub shown : List Line → ℕ → ℕ → Option Node
shown sheet top p = cond (nat_le p (lowered sheet top)) (lower_only p (line_at sheet p).run) None
