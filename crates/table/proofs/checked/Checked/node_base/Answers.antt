use Rattle.std.proofs.Common.{◌+◌, Some, sym, refl, ◌∙◌, subst, inl, arith}
use Rattle.table.specs.declared.counted.Counted.{Counted}
use Rattle.table.specs.Table.{tab}
use Rattle.table.specs.Counting.{sets, Grows}
use Rattle.table.proofs.Firsts.{Entering, Telling, entering_passed, entering_taken, entering_all}
use Rattle.table.proofs.checked.Checked.node_base.Goals as goal
use Rattle.table.proofs.checked.Checked.node_base.Goals.{then-takes, else-takes}

pub takes-requires : goal.takes-requires
takes-requires g c = c.args.self.now.bounded c.loop-rule.rule-index c.rule-item.result (c.loop-rule-test.true, sym c.rule-item.is)

pub gain-base-requires : goal.gain-base-requires
gain-base-requires g c = c.args.self.now.bounded c.loop-rule.rule-index c.rule-item.result (c.loop-rule-test.true, sym c.rule-item.is) c.rule-item.result.from (inl refl)

pub loop-rule-preserved : goal.loop-rule-preserved
loop-rule-preserved g c h =
    let K = g.C.Class.kinds in
    let T = tab c.args.self.now.table in
    let i = sets c.args.inside in
    let a = sets c.args.after in
    let n = c.loop-rule.rule-index in
    let x = c.rule-item.result in
    let is : Counted → Type 0 = λ b. Telling K T h i a (Some c.args.kind) (Entering (n + 1)) (sets b) in
    elim c.if-takes.branch [
      | then-takes w ↦
          subst is (sym w.base-is)
          (entering_taken K T h i a c.args.kind n (omega arith) x (c.loop-rule-test.true, sym c.rule-item.is) (sym c.takes.ensures ∙ w.if-takes.true)
          (sets c.loop-rule.base) (sets w.gain-base.result)
          (subst (λ b. Grows x.from b (sets c.loop-rule.base) (sets w.gain-base.result)) w.touches.ensures w.gain-base.ensures) (c.loop-rule.invariant h))
      | else-takes w ↦
          subst is (sym w.base-is)
          (entering_passed K T h i a c.args.kind n x (c.loop-rule-test.true, sym c.rule-item.is) (sym c.takes.ensures ∙ w.if-takes.false)
          (sets c.loop-rule.base) (c.loop-rule.invariant h))
    ]

pub returns : goal.returns
returns g c h =
    entering_all g.C.Class.kinds (tab c.args.self.now.table) h (sets c.args.inside) (sets c.args.after) c.args.kind c.loop-rule.rule-index
    (sets c.loop-rule.base) (omega arith) (c.loop-rule.invariant h)
