use Rattle.std.proofs.Common.{◌+◌, sym, subst, arith}
use Rattle.record.specs.Run.{run_at}
use Rattle.table.specs.Table.{tab}
use Rattle.table.specs.Counting.{sets, Exact}
use Rattle.table.specs.Scratch.{Filled}
use Rattle.table.proofs.Filling.{filled_more}
use Rattle.table.proofs.Told.{counted}
use Rattle.table.proofs.walk.Walk.count.Goals as goal
use Rattle.table.proofs.walk.Walk.count.Goals.{else-loop-place-test, then-loop-place-test+else-place-place-end}

pub loop-place-preserved : goal.loop-place-preserved
loop-place-preserved g c =
    filled_more g.C.Class.kinds (tab c.args.self.now.checked.table) (g.R.Runs.seen c.args.self.now.run.now) c.loop-place.scratch _ _ c.loop-place.place
    c.counting-counted.result.some c.counting-counted.result.many (omega arith) c.set_number.ensures c.set_number-in-loop-place.ensures c.loop-place.invariant c.counting-counted.ensures

pub returns : goal.returns
returns g c =
    let K = g.C.Class.kinds in
    let T = tab c.args.self.now.checked.table in
    let seen = g.R.Runs.seen c.args.self.now.run.now in
    let top = c.args.self.now.top in
    let S = sets c.counted_at.result in
    let filled : Filled K T seen c.loop-place-test.scratch (top + 1) =
    elim c.loop-place-test.branch [
      | else-loop-place-test w ↦
          subst (λ z. Filled K T seen z (top + 1)) (sym w.scratch-is) (λ p h. c.loop-place.invariant p (omega arith))
      | then-loop-place-test+else-place-place-end w ↦
          subst (λ z. Filled K T seen z (top + 1)) (sym w.scratch-is)
          (λ p h. filled_more K T seen c.loop-place.scratch _ _ c.loop-place.place w.counting-counted.result.some w.counting-counted.result.many
          (omega arith) w.set_number.ensures w.set_number-in-loop-place.ensures c.loop-place.invariant w.counting-counted.ensures p (omega arith))
    ] in
    record {
      counts = counted K T (run_at seen top) S
          (subst (Exact K T (run_at seen top)) (sym c.counted_at.ensures) (filled top (omega arith)))
          c.answer.result c.answer.ensures;
      filled = filled;
    }
