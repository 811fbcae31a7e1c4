use Rattle.std.proofs.Common.{true, false, ◌∙◌, drop, rules}
use Rattle.std.specs.Fn.{FnReturnsAt}
use Rattle.std.proofs.lemmas.Iterator.{IsFirst-from_position, YieldsList-from_slice}
use Rattle.std.proofs.lemmas.List.{take_rest}
use borrow.Author.Tests.{tests}
use Rattle.notation.proofs.Ends.{ends_by_first}
use Rattle.notation.proofs.scan.end_of.Goals as goal

pub returns : goal.returns
returns g c =
    let rest = take_rest c.args.bytes.now c.args.at in
    let first = IsFirst-from_position _ _ c.position.result (λ b. FnReturnsAt g.F.Fn c.args.stops b true) (λ b. FnReturnsAt g.F.Fn c.args.stops b false) c.position.ensures.ran (YieldsList-from_slice (drop c.args.at c.args.bytes.now) (c.iter.ensures.rest ∙ rest)) (λ x q k. search (rules, tests)) (λ x q k. search (rules, tests)) in
    ends_by_first _ _ _ _ _ c.requires.within first (rw rest at c.unwrap_or.ensures)
