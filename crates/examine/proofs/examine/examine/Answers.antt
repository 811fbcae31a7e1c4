use Rattle.std.proofs.Common.{rules, inl, inr, refl, arith}
use Rattle.std.proofs.lemmas.List.{length-take-le}
use Rattle.table.specs.Table.{tab}
use Rattle.examine.proofs.Verdict.{needs_counted}
use Rattle.examine.proofs.examine.examine.Goals as goal

pub returns-then-sheet-needed : goal.returns-then-sheet-needed
returns-then-sheet-needed g c =
    let n = needs_counted (tab c.args.form) (tab c.args.pattern) _ _ _ c.in_ok-check.ensures c.in_ok-check-2.ensures c.state_count.ensures c.state_count-2.ensures c.most_lines-needed.ensures in
    inr (inr (inl (record {
      form = c.in_ok-check.ensures;
      pattern = c.in_ok-check-2.ensures;
      needed = c.most_lines-needed.result;
      needs = n;
      lacks = elim c.then-sheet-needed.either [ inl a ↦ inl a | inr b ↦ inr b.1 ];
      is = refl;
    })))

pub decide-requires-clause-tables : goal.decide-requires-clause-tables
decide-requires-clause-tables g c =
    let n = needs_counted (tab c.args.form) (tab c.args.pattern) _ _ _ c.in_ok-check.ensures c.in_ok-check-2.ensures c.state_count.ensures c.state_count-2.ensures c.most_lines-needed.ensures in
    let l = length-take-le c.most_lines-needed.result c.args.helper.now c.if-helper-needed.false in
    record { form = c.in_ok-check.ensures; pattern = c.in_ok-check-2.ensures; needed = c.most_lines-needed.result; needs = n; room = c.if-sheet-needed.false; space = omega arith }

pub returns-in_err-decide : goal.returns-in_err-decide
returns-in_err-decide g c =
    let n = needs_counted (tab c.args.form) (tab c.args.pattern) _ _ _ c.in_ok-check.ensures c.in_ok-check-2.ensures c.state_count.ensures c.state_count-2.ensures c.most_lines-needed.ensures in
    search rules

pub returns : goal.returns
returns g c =
    let n = needs_counted (tab c.args.form) (tab c.args.pattern) _ _ _ c.in_ok-check.ensures c.in_ok-check-2.ensures c.state_count.ensures c.state_count-2.ensures c.most_lines-needed.ensures in
    (record { form = c.in_ok-check.ensures; pattern = c.in_ok-check-2.ensures; needed = c.most_lines-needed.result; needs = n; room = c.if-sheet-needed.false; space = c.if-helper-needed.false }, c.in_ok-decide.ensures)
