use Rattle.std.proofs.Common.{eqb, sym, refl, ap, ◌∙◌, inl, arith}
use Rattle.table.specs.Sets.{bit}
use Rattle.table.specs.Table.{tab}
use Rattle.table.proofs.Gathering.{collected_more, collected_passed, collected_all}
use Rattle.table.proofs.Leading.{LeadsBy, leads_taken, leads_passed}
use Rattle.table.proofs.checked.Checked.sources.Goals as goal
use Rattle.table.proofs.checked.Checked.sources.Goals.{then-takes, else-takes}

pub takes-requires : goal.takes-requires
takes-requires g c = c.args.self.now.bounded c.loop-rule.rule-index c.rule-item.result (c.loop-rule-test.true, sym c.rule-item.is)

pub with-found-requires : goal.with-found-requires
with-found-requires g c = c.args.self.now.bounded c.loop-rule.rule-index c.rule-item.result (c.loop-rule-test.true, sym c.rule-item.is) c.rule-item.result.from (inl refl)

pub loop-rule-preserved : goal.loop-rule-preserved
loop-rule-preserved g c =
    let K = g.C.Class.kinds in
    let T = tab c.args.self.now.table in
    let k = c.args.kind in
    let i = bit c.args.inside in
    let a = bit c.args.after in
    let n = c.loop-rule.rule-index in
    let x = c.rule-item.result in
    elim c.if-takes.branch [
      | then-takes w ↦
          collected_more (LeadsBy K T k i a) n (eqb x.from) (bit c.loop-rule.found) (bit c.if-takes.found)
          (leads_taken K T k i a n x (omega arith) (c.loop-rule-test.true, sym c.rule-item.is) (sym c.takes.ensures ∙ w.if-takes.true))
          (λ q. ap (λ z. bit z q) w.found-is ∙ w.with-found.ensures q) c.loop-rule.invariant
      | else-takes w ↦
          collected_passed (LeadsBy K T k i a) n (bit c.loop-rule.found) (bit c.if-takes.found)
          (leads_passed K T k i a n x (c.loop-rule-test.true, sym c.rule-item.is) (sym c.takes.ensures ∙ w.if-takes.false))
          (λ q. ap (λ z. bit z q) w.found-is) c.loop-rule.invariant
    ]

pub returns : goal.returns
returns g c q =
    let e = collected_all (LeadsBy g.C.Class.kinds (tab c.args.self.now.table) c.args.kind (bit c.args.inside) (bit c.args.after)) c.loop-rule.rule-index
    (bit c.loop-rule.found) (λ r p l. omega (arith, l.2.rule.0)) c.loop-rule.invariant q in
    (λ b. let l = e.0 b in (l.0, l.1.0, l.1.1, l.1.2, l.1.3, l.1.4), λ l. e.1 (l.0, (l.1, l.2, l.3, l.4, l.5)))
