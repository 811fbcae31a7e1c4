-- How much of a sheet was written to.
use Rattle.std.specs.Prelude.{ℕ, ◌<◌, List, length, Option, MatchOption}
use Rattle.examine.specs.declared.line.Line.{Line}
use Rattle.examine.specs.Lines.{line_at}

-- examining wrote a line there: a line that is not used has form state 255, which no form has
abbrev pub UsedAt : List Line → ℕ → Type 0
UsedAt lines k = (k < length lines) × ((line_at lines k).form < 255)

-- the last line written to, if there is one
abbrev pub LastUsed : List Line → Option ℕ → Type 0
LastUsed lines r = MatchOption r ((k : ℕ) → UsedAt lines k → ⊥) (λ n. UsedAt lines n × ((k : ℕ) → n < k → UsedAt lines k → ⊥))
