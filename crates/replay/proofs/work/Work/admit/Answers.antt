use Rattle.std.proofs.Common.{length, Ok, refl}
use Rattle.table.specs.Table.{tab}
use Rattle.boxes.specs.Shelf.{box_of, shelf_of}
use Rattle.boxes.specs.Book.History.{admits}
use Rattle.replay.specs.Came.{AdmitRefused}
use Rattle.replay.specs.Stop.{TableStops}
use Rattle.replay.proofs.Written.{table_written}
use Rattle.replay.proofs.Stopping.{refused_holds}
use Rattle.replay.proofs.work.Work.admit.Goals as goal

pub returns-clause-admitted : goal.returns-clause-admitted
returns-clause-admitted g c =
    record {
      pattern = tab c.table_of-table.result;
      sheet = length c.deref_mut.result.now;
      helper = length c.deref_mut-2.result.now;
      written = table_written g.C.Written.writes c.args.pattern.now (tab c.table_of-table.result) c.deref.result.now c.in_ok-rules.rules.items c.table_of-table.ensures c.deref.ensures.value c.in_ok-rules.ensures.written;
      leads =
          λ vs h.
          admits h (tab c.table_of-table.result) (length c.deref_mut.result.now) (length c.deref_mut-2.result.now) c.admit.new.sheet (Ok tt)
          (record { box = box_of c.in_ok-admit.field-0.held; shelf = shelf_of c.admit.new.shelf }) c.in_ok-admit.ensures.admits;
    }

pub returns-in_err-admit-clause-stops : goal.returns-in_err-admit-clause-stops
returns-in_err-admit-clause-stops g c =
    refused_holds c.from_residual-in_err-admit.result c.in_err-admit.field-0.0.fault
    (TableStops g.C.Written.writes c.args.pattern.now.rules.items
    (AdmitRefused g.C.Class.kinds g.C.Written.writes c.args.pattern.now (box_of c.args.laid.held) (shelf_of c.args.shelf.now)))
    c.from_residual-in_err-admit.ensures.1
    (record {
      pattern = tab c.table_of-table.result;
      sheet = length c.deref_mut.result.now;
      helper = length c.deref_mut-2.result.now;
      lines = c.admit.new.sheet;
      written = table_written g.C.Written.writes c.args.pattern.now (tab c.table_of-table.result) c.deref.result.now c.in_ok-rules.rules.items c.table_of-table.ensures c.deref.ensures.value c.in_ok-rules.ensures.written;
      refused = (c.in_err-admit.ensures.admits.0, refl);
    })
