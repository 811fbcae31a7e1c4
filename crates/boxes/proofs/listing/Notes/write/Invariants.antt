use Rattle.table.specs.Marks.{noted}
use Rattle.boxes.specs.Listing.{Written}
use Rattle.boxes.proofs.listing.Notes.write.Given as goal

abbrev pub invariant-loop-below : goal.invariant-loop-below
invariant-loop-below l = Written l.list (noted l.self.scratch.now l.self.mark) l.below l.count l.free l.initial.out l.out
