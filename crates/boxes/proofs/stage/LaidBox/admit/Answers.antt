use Rattle.std.proofs.Common.{refl}
use Rattle.boxes.proofs.Parts.{set_written, lists_are, room_left}
use Rattle.boxes.proofs.stage.LaidBox.admit.Goals as goal

pub returns-clause-admits : goal.returns-clause-admits
returns-clause-admits g c = (c.in_default.ensures, lists_are c.put.ensures (set_written _ _ _ (room_left _ _ _ c.in_default.ensures.1.1.1.1.0.1.0)) refl refl)
