use Rattle.boxes.specs.Shelf.{box_of, shelf_of}
use Rattle.replay.proofs.Coming.{same_over, came_more, stopped_at}
use Rattle.replay.proofs.work.Work.replay.Goals as goal

pub loop-number-preserved : goal.loop-number-preserved
loop-number-preserved g c =
    let made = c.in-Ok.ensures in
    let so = c.loop-number.invariant in
    record {
      same_lists = same_over so.same_lists made.same_lists;
      came =
          came_more g.C.Class.kinds g.C.Written.writes c.args.form.now c.args.entries.now c.loop-number.number _ c.index-entries-number.result (box_of c.loop-number.laid.held) (box_of c.in-Ok.laid.held)
          (shelf_of c.loop-number.shelf) (shelf_of c.enter.new.shelf) c.loop-number-test.true (c.index-entries-number.is) made.entered so.came;
    }

pub returns-in-Err-clause-stopped : goal.returns-in-Err-clause-stopped
returns-in-Err-clause-stopped g c =
    stopped_at g.C.Class.kinds g.C.Written.writes c.args.form.now c.args.entries.now c.loop-number.number _ c.index-entries-number.result (box_of c.loop-number.laid.held)
    (shelf_of c.args.shelf.now) (shelf_of c.loop-number.shelf) (shelf_of c.enter.new.shelf) c.in-Err.stop c.loop-number-test.true c.index-entries-number.is
    c.in-Err.ensures.kept c.loop-number.invariant.came c.in-Err.ensures.stops
