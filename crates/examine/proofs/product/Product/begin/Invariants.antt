use Rattle.std.proofs.Common.{ℕ, ◌<◌}
use Rattle.examine.specs.Search.{setting, state, On}
use Rattle.examine.specs.Frontiers.{Begun}
use Rattle.examine.proofs.product.Product.begin.Given as goal

abbrev pub invariant-loop-form : goal.invariant-loop-form
invariant-loop-form g l =
    record {
      on : On (setting g.C.Class.kinds l.self) (state l.initial.draft) (state l.draft);
      done : (f : ℕ) → f < l.form → (p q : ℕ) → p < l.self.states → q < l.self.states → Begun (setting g.C.Class.kinds l.self) (state l.draft) f p q;
    }

abbrev pub invariant-loop-first : goal.invariant-loop-first
invariant-loop-first g l =
    record {
      on : On (setting g.C.Class.kinds l.self) (state l.initial.draft) (state l.draft);
      done : (p : ℕ) → p < l.first → (q : ℕ) → q < l.self.states → Begun (setting g.C.Class.kinds l.self) (state l.draft) l.form p q;
    }

abbrev pub invariant-loop-second : goal.invariant-loop-second
invariant-loop-second g l =
    record {
      on : On (setting g.C.Class.kinds l.self) (state l.initial.draft) (state l.draft);
      done : (q : ℕ) → q < l.second → Begun (setting g.C.Class.kinds l.self) (state l.draft) l.form l.first q;
    }
