use Rattle.std.proofs.Common.{ℕ, ◌<◌}
use Rattle.examine.specs.Search.{setting, state, On, LedBy}
use Rattle.examine.proofs.product.Product.empties.Given as goal

abbrev pub invariant-loop-i : goal.invariant-loop-i
invariant-loop-i g l =
    record {
      on : On (setting g.C.Class.kinds l.self) (state l.initial.draft) (state l.draft);
      done : (r : ℕ) → r < l.i → LedBy (setting g.C.Class.kinds l.self) (state l.initial.draft) (state l.draft) l.b r;
    }
