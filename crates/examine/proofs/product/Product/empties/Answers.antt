use Rattle.std.proofs.Common.{sym, ◌∙◌, arith, below_more}
use Rattle.examine.specs.Search.{setting, state, LedBy}
use Rattle.examine.proofs.Claims.{on_more, ready_low}
use Rattle.examine.proofs.Emptying.{node_leads_not, leads_not, led_on, led_from, led_past}
use Rattle.examine.proofs.product.Product.empties.Goals as goal

pub offset_bounds-draft-b : goal.offset_bounds-draft-b
offset_bounds-draft-b g c = let h = ready_low c.requires in omega arith

pub bounds-draft-b : goal.bounds-draft-b
bounds-draft-b g c = (ready_low c.requires).1

pub loop-i-preserved-in_default : goal.loop-i-preserved-in_default
loop-i-preserved-in_default g c =
    let G = setting g.C.Class.kinds c.args.self.now in
    record {
      on = c.loop-i.invariant.on;
      done = below_more (LedBy G (state c.args.draft.now) (state c.loop-i.draft) c.args.b) c.loop-i.i c.loop-i.invariant.done
          (node_leads_not G c.args.b c.loop-i.i c.rule-item.result (c.loop-i-test.true, sym c.rule-item.is) c.in_default.ensures);
    }

pub loop-i-preserved-then-skip-line-2 : goal.loop-i-preserved-then-skip-line-2
loop-i-preserved-then-skip-line-2 g c =
    let G = setting g.C.Class.kinds c.args.self.now in
    let is = c.in-Some.ensures in
    record {
      on = c.loop-i.invariant.on;
      done = below_more (LedBy G (state c.args.draft.now) (state c.loop-i.draft) c.args.b) c.loop-i.i c.loop-i.invariant.done
          (leads_not G (state c.args.draft.now) c.args.b c.requires.fine c.loop-i.i c.rule-item.result (c.loop-i-test.true, sym c.rule-item.is)
          (λ e. c.if-skip-line.true (is.to ∙ e)) (λ e. c.if-skip-line-2.true (is.to ∙ e)));
    }

pub loop-i-preserved : goal.loop-i-preserved
loop-i-preserved g c =
    let G = setting g.C.Class.kinds c.args.self.now in
    let a = c.loop-i.invariant.on in
    let o = c.in_ok-skips.ensures in
    let d = rw c.in-Some.ensures.number at o.1 in
    record {
      on = on_more a o.0;
      done = below_more (LedBy G (state c.args.draft.now) (state c.skips.new.draft) c.args.b) c.loop-i.i
          (λ r h. led_on G c.args.b r o.0.grown (c.loop-i.invariant.done r h))
          (led_from G c.args.b c.loop-i.i c.requires.used.0 a.grown d);
    }

pub returns : goal.returns
returns g c =
    let G = setting g.C.Class.kinds c.args.self.now in
    (c.loop-i.invariant.on, λ r x y e l k w. c.loop-i.invariant.done r (let h = led_past G l in omega arith) x y e l k w)
