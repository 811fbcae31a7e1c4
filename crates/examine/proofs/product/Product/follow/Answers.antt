use Rattle.examine.specs.declared.turn.Side.TheVariants.{After}
use Rattle.examine.specs.declared.turn.Turn.{Turn}
use Rattle.examine.specs.Search.{setting, state}
use Rattle.examine.specs.Turns.{Crossed}
use Rattle.examine.specs.Frontiers.{Followed}
use Rattle.std.proofs.Common.{ℕ}
use Rattle.examine.proofs.Claims.{went_then}
use Rattle.examine.proofs.Emptying.{led_on}
use Rattle.examine.proofs.Joining.{crossed_from}
use Rattle.examine.proofs.product.Product.follow.Goals as goal

pub returns : goal.returns
returns g c =
    let G = setting g.C.Class.kinds c.args.self.now in
    let t = state c.joins.new.draft in
    let w : Turn = record { side = After; line = c.args.b; bound = c.args.a } in
    let o = c.in_ok-empties.ensures in
    went_then (λ G s t. (r₀ r₁ r₂ : ℕ) → Crossed G s t w r₀ r₁ r₂) (λ G s t. Followed G s t c.args.a c.args.b) c.joins.result o.0
    (λ h d. record { empties = λ r. led_on G c.args.b r h (o.1 r); joins = λ r₀ r₁ r₂. crossed_from G w r₀ r₁ r₂ o.0.grown (d r₀ r₁ r₂) })
    c.joins.ensures
