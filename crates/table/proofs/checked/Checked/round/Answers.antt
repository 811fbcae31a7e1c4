use Rattle.std.proofs.Common.{◌+◌, sym, refl, ◌∙◌, subst, inl, arith}
use Rattle.table.specs.declared.counted.Counted.{Counted}
use Rattle.table.specs.Table.{tab}
use Rattle.table.specs.Counting.{sets, Grows}
use Rattle.table.proofs.Firsts.{Slipping, Telling, slipping_none, slipping_passed, slipping_taken, slipping_all}
use Rattle.table.proofs.checked.Checked.round.Goals as goal
use Rattle.table.proofs.checked.Checked.round.Goals.{then-slips, else-slips}

pub gain-gained-requires : goal.gain-gained-requires
gain-gained-requires g c = c.args.self.now.bounded c.loop-rule.rule-index c.rule-item.result (c.loop-rule-test.true, sym c.rule-item.is) c.rule-item.result.from (inl refl)

pub loop-rule-init : goal.loop-rule-init
loop-rule-init g c o i a b = slipping_none g.C.Class.kinds (tab c.args.self.now.table) (sets c.args.here) i a o (sets c.args.base) (b (sets c.args.here))

pub loop-rule-preserved : goal.loop-rule-preserved
loop-rule-preserved g c o i a b =
    let K = g.C.Class.kinds in
    let T = tab c.args.self.now.table in
    let h = sets c.args.here in
    let n = c.loop-rule.rule-index in
    let x = c.rule-item.result in
    let is : Counted → Type 0 = λ z. Telling K T h i a o (Slipping (n + 1)) (sets z) in
    elim c.if-slips.branch [
      | then-slips w ↦
          subst is (sym w.gained-is)
          (slipping_taken K T h i a o n x (c.loop-rule-test.true, sym c.rule-item.is) (sym c.slips.ensures ∙ w.if-slips.true)
          (sets c.loop-rule.gained) (sets w.gain-gained.result)
          (subst (λ z. Grows x.from z (sets c.loop-rule.gained) (sets w.gain-gained.result)) w.holds.ensures w.gain-gained.ensures) (c.loop-rule.invariant o i a b))
      | else-slips w ↦
          subst is (sym w.gained-is)
          (slipping_passed K T h i a o n x (c.loop-rule-test.true, sym c.rule-item.is) (sym c.slips.ensures ∙ w.if-slips.false)
          (sets c.loop-rule.gained) (c.loop-rule.invariant o i a b))
    ]

pub returns : goal.returns
returns g c o i a b =
    slipping_all g.C.Class.kinds (tab c.args.self.now.table) (sets c.args.here) i a o c.loop-rule.rule-index (sets c.loop-rule.gained) (omega arith) (c.loop-rule.invariant o i a b)
