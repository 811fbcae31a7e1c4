use Rattle.std.proofs.Common.{◌&&◌, eqb, sym, refl, ap, ◌∙◌, ap₂, inl, inr}
use Rattle.table.specs.Sets.{bit}
use Rattle.table.specs.Table.{tab}
use Rattle.table.proofs.Gathering.{collected_more, collected_passed}
use Rattle.table.proofs.Using.{SlidesBy, slides_taken, slides_passed}
use Rattle.table.proofs.checked.Checked.slid.Goals as goal
use Rattle.table.proofs.checked.Checked.slid.Goals.{then-slips-holds, else-slips-holds}

pub with-found-requires : goal.with-found-requires
with-found-requires g c = c.args.self.now.bounded c.loop-rule.rule-index c.rule-item.result (c.loop-rule-test.true, sym c.rule-item.is) c.rule-item.result.to (inr (inl refl))

pub loop-rule-preserved : goal.loop-rule-preserved
loop-rule-preserved g c =
    let P = SlidesBy (tab c.args.self.now.table) (bit c.args.some) (bit c.args.live) in
    let n = c.loop-rule.rule-index in
    let x = c.rule-item.result in
    let test = ap₂ (λ y z. y && z) c.slips.ensures c.holds.ensures in
    elim c.if-slips-holds.branch [
      | then-slips-holds w ↦
          collected_more P n (eqb x.to) (bit c.loop-rule.found) (bit c.if-slips-holds.found)
          (slides_taken (tab c.args.self.now.table) (bit c.args.some) (bit c.args.live) n x (c.loop-rule-test.true, sym c.rule-item.is) (sym test ∙ w.if-slips-holds.true))
          (λ q. ap (λ z. bit z q) w.found-is ∙ w.with-found.ensures q) c.loop-rule.invariant
      | else-slips-holds w ↦
          collected_passed P n (bit c.loop-rule.found) (bit c.if-slips-holds.found)
          (slides_passed (tab c.args.self.now.table) (bit c.args.some) (bit c.args.live) n x (c.loop-rule-test.true, sym c.rule-item.is) (sym test ∙ w.if-slips-holds.false))
          (λ q. ap (λ z. bit z q) w.found-is) c.loop-rule.invariant
    ]
