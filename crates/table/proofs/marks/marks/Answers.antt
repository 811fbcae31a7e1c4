use Rattle.std.proofs.Common.{length, Ok}
use Rattle.table.specs.Table.{tab}
use Rattle.table.specs.Marks.{MarksAnswer}
use Rattle.table.proofs.Walking.{of_walk}
use Rattle.table.proofs.marks.marks.Goals as goal

pub returns-then-counted-eq1 : goal.returns-then-counted-eq1
returns-then-counted-eq1 g c =
    let e = c.in_ok-walk.ensures in
    of_walk (λ t r n. MarksAnswer g.C.Class.kinds (tab t) (g.R.Runs.seen r) n (length c.args.scratch.now) c.list.new.scratch (Ok c.count-counted.result)) g.R.Runs.highest
    e.0 e.1 c.in_ok-walk.walk.highest (e.2, c.count-counted.ensures.counts, λ one. c.list.ensures)
