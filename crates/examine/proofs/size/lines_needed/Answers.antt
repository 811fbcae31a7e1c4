use Rattle.std.proofs.Common.{◌+◌, min, ap₂, ◌∙◌}
use Rattle.table.specs.Limits.{form_states, pattern_states}
use Rattle.table.specs.Table.{tab}
use Rattle.table.proofs.Meaning.{states_counted}
use Rattle.examine.specs.Search.{most}
use Rattle.examine.proofs.Verdict.{needs_counted}
use Rattle.examine.proofs.size.lines_needed.Goals as goal

pub returns-clause-counted : goal.returns-clause-counted
returns-clause-counted g c =
    λ forms states f p.
    c.most_lines.ensures
    ∙ ap₂ (λ x y. most (min x form_states) (min y pattern_states) + 1)
    ((states_counted (tab c.args.form)).only c.state_count.result forms c.state_count.ensures f)
    ((states_counted (tab c.args.pattern)).only c.state_count-2.result states c.state_count-2.ensures p)

pub returns-clause-needed : goal.returns-clause-needed
returns-clause-needed g c =
    λ f p.
    needs_counted (tab c.args.form) (tab c.args.pattern) _ _ _ f p c.state_count.ensures c.state_count-2.ensures c.most_lines.ensures
