use Rattle.std.proofs.Common.{length, Ok, refl}
use Rattle.boxes.specs.Shelf.{box_of, shelf_of}
use Rattle.boxes.specs.Book.History.{files}
use Rattle.replay.specs.Came.{FileRefused}
use Rattle.replay.specs.Stop.{BytesStop}
use Rattle.replay.proofs.Stopping.{refused_holds}
use Rattle.replay.proofs.work.Work.file.Goals as goal

pub returns-clause-filed : goal.returns-clause-filed
returns-clause-filed g c =
    record {
      index = length c.deref_mut.result.now;
      scratch = length c.deref_mut-2.result.now;
      leads =
          λ vs h.
          files h c.args.bytes.now (length c.deref_mut.result.now) (length c.deref_mut-2.result.now) (Ok tt)
          (record { box = box_of c.in_ok-file.field-0.held; shelf = shelf_of c.file.new.shelf }) c.in_ok-file.ensures.files;
    }

pub returns-in_err-file-clause-stops : goal.returns-in_err-file-clause-stops
returns-in_err-file-clause-stops g c =
    refused_holds c.from_residual.result c.in_err-file.field-0.0.fault
    (BytesStop (FileRefused g.C.Class.kinds g.C.Written.writes c.args.bytes.now (box_of c.args.laid.held) (shelf_of c.args.shelf.now)))
    c.from_residual.ensures.1
    (record { index = length c.deref_mut.result.now; scratch = length c.deref_mut-2.result.now; refused = (c.in_err-file.ensures.files.0, refl) })
