use Rattle.std.proofs.Common.{length, arith}
use Rattle.boxes.proofs.Once.{no_reading, two_readings, once}
use Rattle.boxes.proofs.stage.find.read_once.Goals as goal

pub returns-in-0 : goal.returns-in-0
returns-in-0 g c =
    let h = c.in_ok-marks.ensures in
    rw c.boxes.ensures (no_reading g.C.Class.kinds _ c.in_ok-top.ensures (length c.args.list.now) (length c.args.scratch.now) c.in_ok-check_buffers.ensures h.0.table _ c.in-0.is h.1)

pub returns-in-1 : goal.returns-in-1
returns-in-1 g c =
    let h = c.in_ok-marks.ensures in
    once g.C.Class.kinds _ c.in_ok-top.ensures (length c.args.list.now) (length c.args.scratch.now) c.in_ok-check_buffers.ensures
    c.marks.new.scratch c.marks.auto.scratch h.0 _ c.in-1.is h.1 h.2

pub returns-in_default : goal.returns-in_default
returns-in_default g c =
    let h = c.in_ok-marks.ensures in
    rw c.boxes-in_default.ensures (two_readings g.C.Class.kinds _ c.in_ok-top.ensures (length c.args.list.now) (length c.args.scratch.now) c.in_ok-check_buffers.ensures h.0.table _ (omega arith) h.1)
