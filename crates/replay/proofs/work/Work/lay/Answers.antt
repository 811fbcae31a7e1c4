use Rattle.std.proofs.Common.{Ok, refl}
use Rattle.table.specs.Table.{tab}
use Rattle.boxes.specs.Shelf.{box_of, shelf_of}
use Rattle.boxes.specs.Book.History.{begins, lays}
use Rattle.replay.specs.Came.Tells.{lays as begin}
use Rattle.replay.specs.Came.{LayRefused}
use Rattle.replay.specs.Stop.{TableStops}
use Rattle.replay.proofs.Written.{table_written}
use Rattle.replay.proofs.Stopping.{refused_holds}
use Rattle.replay.proofs.work.Work.lay.Goals as goal

pub returns-clause-came : goal.returns-clause-came
returns-clause-came g c =
    record {
      events = _;
      tells =
          begin (tab c.table_of-table.result)
          (table_written g.C.Written.writes c.args.form.now (tab c.table_of-table.result) c.deref.result.now c.in_ok-rules.rules.items c.table_of-table.ensures c.deref.ensures.value c.in_ok-rules.ensures.written);
      history = lays (begins (shelf_of c.args.shelf.now)) (tab c.table_of-table.result) (Ok (box_of c.in_ok-lay.field-0.held)) c.in_ok-lay.ensures.lays;
    }

pub returns-in_err-lay-clause-stops : goal.returns-in_err-lay-clause-stops
returns-in_err-lay-clause-stops g c =
    refused_holds c.from_residual-in_err-lay.result c.in_err-lay.field-0.0.fault
    (TableStops g.C.Written.writes c.args.form.now.rules.items (LayRefused g.C.Class.kinds g.C.Written.writes c.args.form.now (shelf_of c.args.shelf.now)))
    c.from_residual-in_err-lay.ensures.1
    (record {
      form = tab c.table_of-table.result;
      written =
          table_written g.C.Written.writes c.args.form.now (tab c.table_of-table.result) c.deref.result.now c.in_ok-rules.rules.items c.table_of-table.ensures c.deref.ensures.value c.in_ok-rules.ensures.written;
      refused = (c.in_err-lay.ensures.lays.0, refl);
    })
