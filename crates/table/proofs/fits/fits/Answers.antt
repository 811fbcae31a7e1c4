use Rattle.std.proofs.Common.{◌+◌, not, eqb, length, Ok, sym, subst, arith}
use lib.Bits.{bit_and}
use Rattle.record.specs.Run.{run_at}
use Rattle.table.specs.Sets.{bit}
use Rattle.table.specs.Table.{tab}
use Rattle.table.specs.Scratch.{ExactSome, Fitted}
use Rattle.table.specs.Calls.{FitsAnswer}
use Rattle.table.proofs.Filling.{fitted_more, fits_answered}
use Rattle.table.proofs.Walking.{of_walk}
use Rattle.table.proofs.fits.fits.Goals as goal
use Rattle.table.proofs.fits.fits.Goals.{else-loop-place-test, then-loop-place-test+else-place-place-end}

pub loop-place-preserved : goal.loop-place-preserved
loop-place-preserved g c =
    let w = c.in_ok-walk.walk in
    fitted_more g.C.Class.kinds (tab w.checked.table) (g.R.Runs.seen w.run.now) w.places.lower c.loop-place.scratch _ c.loop-place.place
    c.fitting-found.result (omega (arith, c.in_ok-walk.ensures.2.room)) c.set_number.ensures c.loop-place.invariant c.fitting-found.ensures

pub returns : goal.returns
returns g c =
    let K = g.C.Class.kinds in
    let w = c.in_ok-walk.walk in
    let T = tab w.checked.table in
    let seen = g.R.Runs.seen w.run.now in
    let m = c.number.result in
    let fitted : Fitted K T seen c.loop-place-test.scratch (w.top + 1) =
    elim c.loop-place-test.branch [
      | else-loop-place-test v ↦
          subst (λ z. Fitted K T seen z (w.top + 1)) (sym v.scratch-is) (λ p h. c.loop-place.invariant p (omega arith))
      | then-loop-place-test+else-place-place-end v ↦
          subst (λ z. Fitted K T seen z (w.top + 1)) (sym v.scratch-is)
          (λ p h. fitted_more K T seen w.places.lower c.loop-place.scratch _ c.loop-place.place v.fitting-found.result
          (omega (arith, c.in_ok-walk.ensures.2.room)) v.set_number.ensures c.loop-place.invariant v.fitting-found.ensures p (omega arith))
    ] in
    let x : ExactSome K T (run_at seen w.top) (bit m) = subst (λ z. ExactSome K T (run_at seen w.top) (bit z)) (sym c.number.ensures) (fitted w.top (omega arith)) in
    let e = c.in_ok-walk.ensures in
    of_walk (λ t r n. FitsAnswer K (tab t) (g.R.Runs.seen r) n (length c.args.scratch.now) (Ok (not (eqb (bit_and t.starts m) 0)))) g.R.Runs.highest
    e.0 e.1 w.highest (e.2, fits_answered K T (run_at seen w.top) m x)
