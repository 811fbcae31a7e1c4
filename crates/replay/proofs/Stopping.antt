-- The error that a `?` makes of a refused call.
use Rattle.std.proofs.Common.{◌≡◌, Ok, Err, Result, IfErr, sym, subst}
use Rattle.std.specs.Result.{IsErrAnd}
use Rattle.boxes.specs.declared.fault.Fault.{Fault}
use Rattle.replay.specs.declared.stop.Stop.{Stop}
use Rattle.replay.specs.declared.stop.Stop.TheVariants.{Refused}

-- what holds of the refusal holds of the error
pub refused_holds : {R : Type 0} (r : Result R Stop) (f : Fault) (Q : Stop → Type 0) → IsErrAnd r (λ s. s ≡ Refused f) → Q (Refused f) → IfErr r Q
refused_holds (Ok x) f Q h q = tt
refused_holds (Err s) f Q h q = subst Q (sym h) q
