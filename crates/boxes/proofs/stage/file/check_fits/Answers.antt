use Rattle.std.proofs.Common.{Bool, subst}
use Rattle.std.specs.Bool.{IsTrue}
use Rattle.boxes.specs.declared.fault.Cause.TheVariants.{NoFit}
use Rattle.boxes.specs.Check.{unless}
use Rattle.boxes.specs.Fault.{fault}
use Rattle.boxes.specs.Stage.{Checked}
use Rattle.boxes.proofs.Filing.{fits_checked}
use Rattle.boxes.proofs.stage.file.check_fits.Goals as goal

-- by `subst`: so another answer in the code is refused where the two answers differ
pub returns : goal.returns
returns g c =
    fits_checked g.C.Class.kinds _ c.requires.indexed _ _ c.ensure.result c.requires.form c.requires.room c.fits.ensures
    (subst (λ (b : Bool). Checked (unless (IsTrue b) (fault NoFit 0)) c.ensure.result) c.unwrap_or-answer.ensures (rw c.boxes.ensures at c.ensure.ensures))
