use Rattle.std.proofs.Common.{refl}
use Rattle.boxes.proofs.Parts.{set_written, lists_are, room_left}
use Rattle.boxes.proofs.stage.LaidBox.file.Goals as goal

pub returns-clause-files : goal.returns-clause-files
returns-clause-files g c = (c.in_default.ensures, lists_are refl refl (set_written _ _ _ (room_left _ _ _ c.in_default.ensures.1.1.1.1.0.0)) c.put.ensures)
