use Rattle.std.proofs.Common.{◌+◌, ◌-◌, ◌<◌, ◌≤◌}
use Rattle.examine.specs.Search.{setting, state, On}
use Rattle.examine.specs.Frontiers.{Tried}
use Rattle.examine.proofs.product.Product.search.Given as goal

abbrev pub invariant-loop-a : goal.invariant-loop-a
invariant-loop-a g l =
    record {
      on : On (setting g.C.Class.kinds l.self) (state l.initial.draft) (state l.draft);
      tried : Tried (setting g.C.Class.kinds l.self) (state l.draft) l.a l.b;
      above : 0 < l.a;
      order : l.a ≤ l.b;
      below : l.b ≤ l.draft.used;
    }

abbrev pub decreases-loop-a : goal.decreases-loop-a
decreases-loop-a g l = 786434 - (l.a + l.b)
