use Rattle.std.proofs.Common.{sym, arith, below_more}
use Rattle.examine.specs.Lines.{line_at}
use Rattle.examine.specs.Search.{setting, state}
use Rattle.examine.specs.Turns.{Crossed}
use Rattle.examine.proofs.Claims.{on_more, ready_low}
use Rattle.examine.proofs.Joining.{turn_states, crossed_on, crossed_from, unarmed_not, arm_has, apart_kinds, taken_by}
use Rattle.examine.proofs.product.Product.seconds.Goals as goal

pub offset_bounds-draft-turn : goal.offset_bounds-draft-turn
offset_bounds-draft-turn g c = let h = ready_low c.requires.ready in omega arith

pub bounds-draft-turn : goal.bounds-draft-turn
bounds-draft-turn g c = (ready_low c.requires.ready).1

pub loop-i-preserved-in_default : goal.loop-i-preserved-in_default
loop-i-preserved-in_default g c =
    let G = setting g.C.Class.kinds c.args.self.now in
    let s = state c.args.draft.now in
    let w = c.args.turn in
    record {
      on = c.loop-i.invariant.on;
      done = below_more (Crossed G s (state c.loop-i.draft) w c.args.form.rule c.args.first.rule) c.loop-i.i c.loop-i.invariant.done
          (λ k x y z j a b e. absurd (unarmed_not G.kinds G.pattern w.side c.loop-i.i (line_at s.lines w.line).second c.rule-item.result (c.loop-i-test.true, sym c.rule-item.is)
          c.in_default.ensures _ _ _ _ j.second (turn_states G w c.requires.ready.fine x y a b e).2));
    }

pub loop-i-preserved-in_default-meet : goal.loop-i-preserved-in_default-meet
loop-i-preserved-in_default-meet g c =
    let G = setting g.C.Class.kinds c.args.self.now in
    let s = state c.args.draft.now in
    let w = c.args.turn in
    record {
      on = c.loop-i.invariant.on;
      done = below_more (Crossed G s (state c.loop-i.draft) w c.args.form.rule c.args.first.rule) c.loop-i.i c.loop-i.invariant.done
          (λ k x y z j a b e. absurd (apart_kinds G c.args.met c.in-Some.second.class k c.in_default-meet.ensures j.second.kind (c.requires.met.only k _ _ _ _ _ _ j.form j.first)
          (arm_has G.kinds G.pattern w.side c.loop-i.i _ c.rule-item.result c.in-Some.second.class c.in-Some.second.arm (c.loop-i-test.true, sym c.rule-item.is) c.in-Some.ensures _ _ _ _ j.second)));
    }

pub cross-requires-clause-taken : goal.cross-requires-clause-taken
cross-requires-clause-taken g c =
    let G = setting g.C.Class.kinds c.args.self.now in
    let w = c.args.turn in
    taken_by G c.in-Some-meet.all c.args.met c.in-Some.second.class w.side c.args.form c.args.first c.in-Some.second.arm c.loop-i.i _ c.least.result c.rule-item.result
    c.requires.met (c.loop-i-test.true, sym c.rule-item.is) c.in-Some.ensures c.in-Some-meet.ensures c.least.type_inv c.least.ensures.member

pub loop-i-preserved : goal.loop-i-preserved
loop-i-preserved g c =
    let G = setting g.C.Class.kinds c.args.self.now in
    let s = state c.args.draft.now in
    let w = c.args.turn in
    let f = c.args.form.rule in
    let p = c.args.first.rule in
    let a = c.loop-i.invariant.on in
    let o = c.in_ok-cross.ensures in
    let d = rw c.in-Some.ensures.number at o.1 in
    record {
      on = on_more a o.0;
      done = below_more (Crossed G s (state c.cross.new.draft) w f p) c.loop-i.i
          (λ r h. crossed_on G w f p r o.0.grown (c.loop-i.invariant.done r h))
          (crossed_from G w f p c.loop-i.i a.grown d);
    }

pub returns : goal.returns
returns g c = (c.loop-i.invariant.on, λ r k x y z j. c.loop-i.invariant.done r (let h = j.second.rule.0 in omega arith) k x y z j)
