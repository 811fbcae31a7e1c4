use Rattle.std.proofs.Common.{ℕ, Option}
use Rattle.table.specs.Table.{tab}
use Rattle.table.specs.Counting.{Sets, sets, Base}
use Rattle.table.proofs.Firsts.{Slipping, Telling}
use Rattle.table.proofs.checked.Checked.round.Given as goal

-- the sets tell of the base and of the empty rules so far
abbrev pub invariant-loop-rule : goal.invariant-loop-rule
invariant-loop-rule g l =
    (o : Option ℕ) (i a : Sets) → Base g.C.Class.kinds (tab l.self.table) o i a (sets l.initial.gained)
    → Telling g.C.Class.kinds (tab l.self.table) (sets l.here) i a o (Slipping l.rule-index) (sets l.gained)
