use Rattle.std.proofs.Common.{take}
use Rattle.boxes.specs.Shelf.{box_of, shelf_of, SameLists}
use Rattle.replay.specs.Came.{Came}
use Rattle.replay.proofs.work.Work.replay.Given as goal

-- the lists are those that were lent, and the calls up to here lead to the box
abbrev pub invariant-loop-number : goal.invariant-loop-number
invariant-loop-number g l =
    record {
      same_lists : SameLists l.fn.shelf l.shelf;
      came : Came g.C.Class.kinds g.C.Written.writes l.form (take l.number l.entries) (box_of l.laid.held) (shelf_of l.shelf);
    }
