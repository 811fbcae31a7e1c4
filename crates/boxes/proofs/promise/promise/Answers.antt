use Rattle.boxes.proofs.Exact.{exact_holds}
use Rattle.boxes.proofs.Promised.{always_holds}
use Rattle.boxes.proofs.promise.promise.Goals as goal

pub returns : goal.returns
returns g c = record { exact = exact_holds _; always = always_holds _ }
