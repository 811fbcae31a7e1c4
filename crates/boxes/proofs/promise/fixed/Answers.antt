use Rattle.boxes.proofs.Settled.{fixed_holds}
use Rattle.boxes.proofs.promise.fixed.Goals as goal

pub returns : goal.returns
returns g c = fixed_holds _
