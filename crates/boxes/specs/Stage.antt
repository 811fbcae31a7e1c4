-- What the calls hand back, as the relations speak of it.
use Rattle.std.specs.Prelude.{Ok, Err, Result}
use Rattle.boxes.specs.declared.fault.Fault.{Fault}
use Rattle.boxes.specs.declared.refused.Refused.{Refused}
use Rattle.boxes.specs.declared.stage.on_shelf.BoxOnShelf.{BoxOnShelf}
use Rattle.boxes.specs.declared.stage.NewBox.{NewBox}
use Rattle.boxes.specs.declared.stage.LaidBox.{LaidBox}
use Rattle.boxes.specs.Check.{Check}
use Rattle.boxes.specs.Shelf.{Box, World, box_of}

-- a box on its shelf, as the relations speak of it
abbrev pub world : {C : Type 0} → BoxOnShelf C → World C
world b = record { box = box_of b.held; shelf = record { rules = b.rules.now; patterns = b.patterns.now; records = b.records.now; bytes = b.bytes.now } }

-- what a function that makes a check answers
abbrev pub Checked : Check → Result (Unit {0}) Fault → Type 0
Checked c (Ok u) = c.passes
Checked c (Err f) = c.fails f

abbrev pub lay_answer : Result LaidBox (Refused NewBox) → Result Box Fault
lay_answer (Ok b) = Ok (box_of b.held)
lay_answer (Err e) = Err e.fault

-- done, or refused
abbrev pub answer : Result LaidBox (Refused LaidBox) → Result (Unit {0}) Fault
answer (Ok b) = Ok tt
answer (Err e) = Err e.fault

-- the box that a call hands back
abbrev pub box_after : Result LaidBox (Refused LaidBox) → Box
box_after (Ok b) = box_of b.held
box_after (Err e) = box_of e.back.held
