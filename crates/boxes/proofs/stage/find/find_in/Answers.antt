use Rattle.std.proofs.Common.{length, ◌<◌, ◌≤◌, refl, arith}
use Rattle.std.proofs.lemmas.Bool.Decides.{nat_tests}
use Rattle.std.proofs.lemmas.Result.{err_from_is_err_and}
use Rattle.boxes.proofs.Found.{unread, too_short, passed, listed}
use Rattle.boxes.proofs.stage.find.find_in.Goals as goal

pub returns-in_err-top : goal.returns-in_err-top
returns-in_err-top g c =
    let p = err_from_is_err_and c.from_residual-in_err-top.result c.from_residual-in_err-top.ensures.1 in
    rw (p.1, p.2) (unread g.C.Class.kinds _ _ _ _ _ _ c.args.out.now c.in_ok-laid.ensures.1 c.in_ok-located.ensures _ c.in_err-top.ensures, refl)

pub returns-in_err-ensure : goal.returns-in_err-ensure
returns-in_err-ensure g c =
    let p = err_from_is_err_and c.from_residual-in_err-ensure.result c.from_residual-in_err-ensure.ensures.1 in
    let n : length c.args.out.now < c.count-count.result = grind (arith, nat_tests, c.in_err-ensure.ensures.0) in
    rw (p.1, p.2, c.in_err-ensure.ensures.1, c.boxes.ensures)
    (too_short g.C.Class.kinds _ _ _ _ _ _ c.args.out.now c.in_ok-laid.ensures.1 c.in_ok-located.ensures c.in_ok-top.ensures c.count-count.ensures n, refl)

pub returns : goal.returns
returns g c =
    let n : c.count-count.result ≤ length c.args.out.now = grind (arith, nat_tests, c.in_ok-ensure.ensures) in (
      passed g.C.Class.kinds _ _ _ _ _ _ c.args.out.now c.in_ok-laid.ensures.1 c.in_ok-located.ensures c.in_ok-top.ensures c.count-count.ensures n,
      listed g.C.Class.kinds _ _ _ _ _ _ c.args.out.now c.in_ok-laid.ensures.1 c.in_ok-located.ensures c.in_ok-top.ensures c.count-count.ensures _ c.write.ensures,
    )
