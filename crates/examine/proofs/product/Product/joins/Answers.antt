use Rattle.std.proofs.Common.{ℕ, sym, ap, ◌∙◌, arith, below_more}
use Rattle.examine.specs.declared.line.Line.{Line}
use Rattle.examine.specs.Lines.{line_at}
use Rattle.examine.specs.Search.{setting, state}
use Rattle.examine.specs.Turns.{Crossed}
use Rattle.examine.proofs.Claims.{on_more, ready_low, went_ok, went_over}
use Rattle.examine.proofs.Joining.{turn_states, crossed_on, crossed_from, unarmed_not, arm_has, apart_kinds, met_by}
use Rattle.examine.proofs.product.Product.joins.Goals as goal

pub offset_bounds-draft-turn : goal.offset_bounds-draft-turn
offset_bounds-draft-turn g c = let h = ready_low c.requires in omega arith

pub bounds-draft-turn : goal.bounds-draft-turn
bounds-draft-turn g c = (ready_low c.requires).1

pub rules-preserved-in_default : goal.rules-preserved-in_default
rules-preserved-in_default g c =
    let G = setting g.C.Class.kinds c.args.self.now in
    let s = state c.args.draft.now in
    let w = c.args.turn in
    let i = c.rules.i in
    record {
      on = c.rules.invariant.on;
      done = below_more (λ r₀. (r₁ r₂ : ℕ) → Crossed G s (state c.rules.draft) w r₀ r₁ r₂) i c.rules.invariant.done
          (λ r₁ r₂ k x y z j a b e. absurd (unarmed_not G.kinds G.form w.side i (line_at s.lines w.line).form c.rule-item.result (c.rules-test.true, sym c.rule-item.is)
          c.in_default.ensures _ _ _ _ j.form (turn_states G w c.requires.fine x y a b e).0));
      none = c.rules.invariant.none;
    }

pub loop-j-preserved-in_default-arm : goal.loop-j-preserved-in_default-arm
loop-j-preserved-in_default-arm g c =
    let G = setting g.C.Class.kinds c.args.self.now in
    let w = c.args.turn in
    let n = c.loop-j.j in
    let on = c.rules.invariant.on in
    record {
      on = c.loop-j.invariant.on;
      done = below_more (λ r₁. (r₂ : ℕ) → Crossed G (state c.rules.draft) (state c.loop-j.draft) w c.rules.i r₁ r₂) n c.loop-j.invariant.done
          (λ r₂ k x y z j a b e. absurd (unarmed_not G.kinds G.pattern w.side n _ c.other-item.result (c.loop-j-test.true, sym c.other-item.is)
          c.in_default-arm.ensures _ _ _ _ j.first
          ((turn_states G w on.fine x y a b e).1 ∙ ap (λ (l : Line). l.first) (on.grown.same w.line c.requires.used.1))));
      none = c.loop-j.invariant.none;
    }

pub loop-j-preserved-in_default-meet : goal.loop-j-preserved-in_default-meet
loop-j-preserved-in_default-meet g c =
    let G = setting g.C.Class.kinds c.args.self.now in
    let w = c.args.turn in
    let i = c.rules.i in
    let n = c.loop-j.j in
    record {
      on = c.loop-j.invariant.on;
      done = below_more (λ r₁. (r₂ : ℕ) → Crossed G (state c.rules.draft) (state c.loop-j.draft) w i r₁ r₂) n c.loop-j.invariant.done
          (λ r₂ k x y z j a b e. absurd (apart_kinds G c.in-Some.form.class c.in-Some-arm.first.class k c.in_default-meet.ensures j.form.kind
          (arm_has G.kinds G.form w.side i _ c.rule-item.result c.in-Some.form.class c.in-Some.form.arm (c.rules-test.true, sym c.rule-item.is) c.in-Some.ensures _ _ _ _ j.form)
          (arm_has G.kinds G.pattern w.side n _ c.other-item.result c.in-Some-arm.first.class c.in-Some-arm.first.arm (c.loop-j-test.true, sym c.other-item.is) c.in-Some-arm.ensures _ _ _ _ j.first)));
      none = c.loop-j.invariant.none;
    }

pub seconds-verdict-requires-clause-met : goal.seconds-verdict-requires-clause-met
seconds-verdict-requires-clause-met g c =
    let G = setting g.C.Class.kinds c.args.self.now in
    met_by G c.in-Some-meet.met c.in-Some.form.class c.in-Some-arm.first.class c.args.turn.side c.rules.i c.loop-j.j _ _ c.rule-item.result c.other-item.result c.in-Some.form.arm c.in-Some-arm.first.arm
    (c.rules-test.true, sym c.rule-item.is) c.in-Some.ensures (c.loop-j-test.true, sym c.other-item.is) c.in-Some-arm.ensures c.in-Some-meet.ensures

pub loop-j-preserved : goal.loop-j-preserved
loop-j-preserved g c =
    let G = setting g.C.Class.kinds c.args.self.now in
    let t = state c.seconds-verdict.new.draft in
    let w = c.args.turn in
    let i = c.rules.i in
    let n = c.loop-j.j in
    let a = c.loop-j.invariant.on in
    let o = went_ok (λ G s t. (r : ℕ) → Crossed G s t w c.in-Some.form.arm.rule c.in-Some-arm.first.arm.rule r) c.seconds-verdict.result (sym c.if-is_err.ensures.value) c.seconds-verdict.ensures in
    let d = rw (c.in-Some.ensures.number, c.in-Some-arm.ensures.number) at o.2 in
    record {
      on = on_more a o.1;
      done = below_more (λ r₁. (r₂ : ℕ) → Crossed G (state c.rules.draft) t w i r₁ r₂) n
          (λ r₁ h r₂. crossed_on G w i r₁ r₂ o.1.grown (c.loop-j.invariant.done r₁ h r₂))
          (λ r₂. crossed_from G w i n r₂ a.grown (d r₂));
      none = o.0;
    }

pub rules-preserved : goal.rules-preserved
rules-preserved g c =
    let G = setting g.C.Class.kinds c.args.self.now in
    let s = state c.args.draft.now in
    let t = state c.loop-j.draft in
    let w = c.args.turn in
    let i = c.rules.i in
    let a = c.rules.invariant.on in
    let o = c.loop-j.invariant.on in
    record {
      on = on_more a o;
      done = below_more (λ r₀. (r₁ r₂ : ℕ) → Crossed G s t w r₀ r₁ r₂) i
          (λ r₀ h r₁ r₂. crossed_on G w r₀ r₁ r₂ o.grown (c.rules.invariant.done r₀ h r₁ r₂))
          (λ r₁ r₂. crossed_from G w i r₁ r₂ a.grown
          (λ k x y z j. c.loop-j.invariant.done r₁ (let h = j.first.rule.0 in let l = c.loop-j-test.false in omega arith) r₂ k x y z j));
      none = c.loop-j.invariant.none;
    }

pub returns-after-rules : goal.returns-after-rules
returns-after-rules g c =
    rw c.rules.invariant.none
    (c.rules.invariant.on, λ r₀ r₁ r₂ k x y z j. c.rules.invariant.done r₀ (let h = j.form.rule.0 in let l = c.rules-test.false in omega arith) r₁ r₂ k x y z j)

pub returns-then-is_err : goal.returns-then-is_err
returns-then-is_err g c =
    let w = c.args.turn in
    went_over (state c.seconds-verdict.new.draft) (λ G s t. (r : ℕ) → Crossed G s t w c.in-Some.form.arm.rule c.in-Some-arm.first.arm.rule r) (λ G s t. (r₀ r₁ r₂ : ℕ) → Crossed G s t w r₀ r₁ r₂)
    c.seconds-verdict.result (sym c.if-is_err.ensures.value) (on_more c.rules.invariant.on c.loop-j.invariant.on) c.seconds-verdict.ensures
