use Rattle.std.proofs.Common.{◌≡◌, ℕ, ◌<◌, Ok}
use Rattle.examine.specs.Search.{setting, state, On}
use Rattle.examine.specs.Turns.{Crossed}
use Rattle.examine.proofs.product.Product.joins.Given as goal

abbrev pub invariant-rules : goal.invariant-rules
invariant-rules g l =
    record {
      on : On (setting g.C.Class.kinds l.self) (state l.initial.draft) (state l.draft);
      done : (r₀ : ℕ) → r₀ < l.i → (r₁ r₂ : ℕ) → Crossed (setting g.C.Class.kinds l.self) (state l.initial.draft) (state l.draft) l.turn r₀ r₁ r₂;
      none : l.verdict ≡ Ok tt;
    }

abbrev pub invariant-loop-j : goal.invariant-loop-j
invariant-loop-j g l =
    record {
      on : On (setting g.C.Class.kinds l.self) (state l.initial.draft) (state l.draft);
      done : (r₁ : ℕ) → r₁ < l.j → (r₂ : ℕ) → Crossed (setting g.C.Class.kinds l.self) (state l.initial.draft) (state l.draft) l.turn l.i r₁ r₂;
      none : l.verdict ≡ Ok tt;
    }
