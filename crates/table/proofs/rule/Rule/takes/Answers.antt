use Rattle.std.proofs.Common.{sym, refl, subst, inl, inr}
use Rattle.table.specs.Check.{Enters}
use Rattle.table.proofs.rule.Rule.takes.Goals as goal

pub among-requires : goal.among-requires
among-requires g c = c.requires c.in-Node.state (inr (inr (subst (λ s. Enters s c.in-Node.state) (sym c.in-Node.is) refl)))

pub among-requires-then-among : goal.among-requires-then-among
among-requires-then-among g c = c.requires c.args.self.now.to (inr (inl refl))
