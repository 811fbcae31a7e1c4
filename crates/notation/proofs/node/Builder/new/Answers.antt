use Rattle.notation.proofs.Spelling.{spelt_empty}
use Rattle.notation.proofs.node.Builder.new.Goals as goal

pub invariant_of-result : goal.invariant_of-result
invariant_of-result c =
    record { spelt = spelt_empty _ c.new-2.ensures.items }
