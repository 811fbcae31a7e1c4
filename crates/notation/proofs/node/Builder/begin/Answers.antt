use Rattle.notation.proofs.Spelling.{spelt_empty}
use Rattle.notation.proofs.node.Builder.begin.Goals as goal

pub invariant_of-result : goal.invariant_of-result
invariant_of-result c =
    record { spelt = spelt_empty _ c.new.ensures.items }
