use Rattle.std.proofs.Common.{[], refl}
use Rattle.notation.proofs.Spelling.{spelt_empty, spelt_after}
use Rattle.notation.proofs.node.Builder.leaf.Goals as goal

pub invariant_of-result : goal.invariant_of-result
invariant_of-result c =
    record { spelt = spelt_after _ _ c.args.kind c.args.text.now [] c.args.self.spelt (spelt_empty [] refl) c.in_ok-push_node.ensures }
