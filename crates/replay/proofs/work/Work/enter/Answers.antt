use Rattle.std.proofs.Common.{List, ℕ, IfOk, IfErr, sym, subst}
use Rattle.boxes.specs.Shelf.{box_of, shelf_of}
use Rattle.notation.specs.declared.value.Entry.{Entry}
use Rattle.replay.specs.Came.{Entered, Filed, EntryStops, FileRefused}
use Rattle.replay.specs.Stop.{BytesStop}
use Rattle.replay.proofs.work.Work.enter.Goals as goal

pub returns-in-Pattern-clause-entered : goal.returns-in-Pattern-clause-entered
returns-in-Pattern-clause-entered g c =
    subst (λ (e : Entry). IfOk c.admit.result (λ b. Entered g.C.Class.kinds g.C.Written.writes e (box_of c.args.laid.held) (shelf_of c.args.shelf.now) (box_of b.held) (shelf_of c.admit.new.shelf)))
    (sym c.in-Pattern.is) c.admit.ensures.admitted

pub returns-in-Record-clause-entered : goal.returns-in-Record-clause-entered
returns-in-Record-clause-entered g c =
    subst (λ (e : Entry). IfOk c.file.result (λ b. Entered g.C.Class.kinds g.C.Written.writes e (box_of c.args.laid.held) (shelf_of c.args.shelf.now) (box_of b.held) (shelf_of c.file.new.shelf)))
    (sym c.in-Record.is)
    (subst (λ (bs : List ℕ). IfOk c.file.result (λ b. Filed g.C.Class.kinds g.C.Written.writes bs (box_of c.args.laid.held) (shelf_of c.args.shelf.now) (box_of b.held) (shelf_of c.file.new.shelf)))
    c.deref.ensures.value c.file.ensures.filed)

pub returns-in-Pattern-clause-stops : goal.returns-in-Pattern-clause-stops
returns-in-Pattern-clause-stops g c =
    subst (λ (e : Entry). IfErr c.admit.result (EntryStops g.C.Class.kinds g.C.Written.writes e (box_of c.args.laid.held) (shelf_of c.args.shelf.now)))
    (sym c.in-Pattern.is) c.admit.ensures.stops

pub returns-in-Record-clause-stops : goal.returns-in-Record-clause-stops
returns-in-Record-clause-stops g c =
    subst (λ (e : Entry). IfErr c.file.result (EntryStops g.C.Class.kinds g.C.Written.writes e (box_of c.args.laid.held) (shelf_of c.args.shelf.now)))
    (sym c.in-Record.is)
    (subst (λ (bs : List ℕ). IfErr c.file.result (BytesStop (FileRefused g.C.Class.kinds g.C.Written.writes bs (box_of c.args.laid.held) (shelf_of c.args.shelf.now))))
    c.deref.ensures.value c.file.ensures.stops)
