use Rattle.std.proofs.Common.{◌||◌, sym, refl, ap, ◌∙◌, subst, inl, inr}
use Rattle.table.specs.Sets.{bit}
use Rattle.table.specs.Check.{Enters}
use Rattle.table.specs.Marks.{gives}
use Rattle.table.specs.Listing.{adds_inside, adds_after}
use Rattle.table.proofs.Bits.{bit_of_or}
use Rattle.table.proofs.listing.Used.add.Goals as goal

pub with-requires : goal.with-requires
with-requires g c = c.requires c.in-Node.inside (inr (inr (subst (λ s. Enters s c.in-Node.inside) (sym c.in-Node.is) refl)))

pub with-requires-in-Node : goal.with-requires-in-Node
with-requires-in-Node g c = c.requires c.args.rule.now.to (inr (inl refl))

pub returns-in-Node : goal.returns-in-Node
returns-in-Node g c =
    let is = sym c.in-Node.is in
    record {
      insides = λ q. c.with.ensures q ∙ ap (λ s. bit c.args.self.inside q || adds_inside s q) is;
      afters = λ q. c.with-in-Node.ensures q ∙ ap (λ s. bit c.args.self.after q || adds_after c.args.rule.now.to s q) is;
      marked = λ m. bit_of_or c.args.self.marks c.in-Node.marks m ∙ ap (λ s. bit c.args.self.marks m || gives s m) is;
    }
