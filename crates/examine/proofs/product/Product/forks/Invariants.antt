use Rattle.std.proofs.Common.{ℕ, ◌<◌}
use Rattle.examine.specs.Search.{setting, state, On, Forked}
use Rattle.examine.proofs.product.Product.forks.Given as goal

abbrev pub invariant-loop-i : goal.invariant-loop-i
invariant-loop-i g l =
    record {
      on : On (setting g.C.Class.kinds l.self) (state l.initial.draft) (state l.draft);
      done : (s : ℕ) → s < l.i → Forked (setting g.C.Class.kinds l.self) (state l.initial.draft) (state l.draft) l.b l.skip.rule s;
    }
