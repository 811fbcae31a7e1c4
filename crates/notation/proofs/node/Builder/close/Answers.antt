use Rattle.std.proofs.Common.{ℕ, List, sym, subst}
use Rattle.notation.specs.Spelt.{Spelt}
use Rattle.notation.proofs.Spelling.{spelt_after}
use Rattle.notation.proofs.node.Builder.close.Goals as goal

pub invariant_of-result : goal.invariant_of-result
invariant_of-result c =
    record { spelt = spelt_after _ _ c.in-Some.node.kind c.deref.result.now c.deref-2.result.now c.in-Some.node.spelt (subst (λ (w : List ℕ). ∥ Spelt w ∥₁) (sym c.deref-2.ensures.value) c.args.self.spelt) c.in_ok-push_node.ensures }
