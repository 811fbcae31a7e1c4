use Rattle.std.proofs.Common.{sym, ◌∙◌, inl, inr, arith, below_more}
use Rattle.examine.specs.Facts.{together}
use Rattle.examine.specs.Lines.{line_at}
use Rattle.examine.specs.Search.{setting, state, Forked}
use Rattle.examine.proofs.Claims.{on_more, ready_low}
use Rattle.examine.proofs.Emptying.{line_on, line_low, rule_low, fork_leads, fork_done, forked_on}
use Rattle.examine.proofs.product.Product.forks.Goals as goal

pub offset_bounds-draft-b : goal.offset_bounds-draft-b
offset_bounds-draft-b g c = let h = ready_low c.requires.ready in omega arith

pub bounds-draft-b : goal.bounds-draft-b
bounds-draft-b g c = (ready_low c.requires.ready).1

pub loop-i-preserved-in_default : goal.loop-i-preserved-in_default
loop-i-preserved-in_default g c =
    let G = setting g.C.Class.kinds c.args.self.now in
    let s = state c.args.draft.now in
    record {
      on = c.loop-i.invariant.on;
      done = below_more (Forked G s (state c.loop-i.draft) c.args.b c.args.skip.rule) c.loop-i.i c.loop-i.invariant.done
          (fork_done G s c.args.b c.requires.ready.fine c.args.skip.rule c.args.skip.from c.args.skip.to c.loop-i.i c.rule-item.result
          c.requires.rule (c.loop-i-test.true, sym c.rule-item.is) (λ e n p q. absurd (c.in_default.ensures e)));
    }

pub loop-i-preserved-then-i-skip : goal.loop-i-preserved-then-i-skip
loop-i-preserved-then-i-skip g c =
    let G = setting g.C.Class.kinds c.args.self.now in
    let s = state c.args.draft.now in
    let is = c.in-Some.ensures in
    record {
      on = c.loop-i.invariant.on;
      done = below_more (Forked G s (state c.loop-i.draft) c.args.b c.args.skip.rule) c.loop-i.i c.loop-i.invariant.done
          (fork_done G s c.args.b c.requires.ready.fine c.args.skip.rule c.args.skip.from c.args.skip.to c.loop-i.i c.rule-item.result
          c.requires.rule (c.loop-i-test.true, sym c.rule-item.is)
          (λ e n p q. absurd (elim c.then-i-skip.either [
            | inl same ↦ n same
            | inr other ↦ elim other [
              | inl d ↦ d.1 (is.from ∙ p)
              | inr d ↦ d.2 (is.to ∙ q)
            ]
          ])));
    }

pub lead-requires-clause-leads : goal.lead-requires-clause-leads
lead-requires-clause-leads g c =
    let G = setting g.C.Class.kinds c.args.self.now in
    let l = line_low G c.requires.ready in
    let u = rule_low G c.requires.ready.fine c.args.skip.rule c.requires.rule in
    let is = c.in-Some.ensures in
    rw (c.about-known.ensures, c.about-next.ensures) (record {
      before = (l.0, u.1, l.2);
      after = (l.0, u.0, u.0);
      rule = c.args.skip.rule;
      leads = fork_leads G c.args.b c.args.skip.rule c.args.skip.from c.args.skip.to c.loop-i.i _ _ c.rule-item.result
          c.requires.rule (c.loop-i-test.true, sym c.rule-item.is) is.step c.if-i-skip.false
          (sym is.from ∙ c.if-other-skip.false) (sym is.to ∙ c.if-other-line.false);
    })

pub loop-i-preserved : goal.loop-i-preserved
loop-i-preserved g c =
    let G = setting g.C.Class.kinds c.args.self.now in
    let s = state c.args.draft.now in
    let l = line_at s.lines c.args.b in
    let a = c.loop-i.invariant.on in
    let o = c.in_ok-lead.ensures in
    let d = rw (c.about-known.ensures, c.about-next.ensures) at o.1 in
    record {
      on = on_more a o.0;
      done = below_more (Forked G s (state c.lead.new.draft) c.args.b c.args.skip.rule) c.loop-i.i
          (λ r₂ h. forked_on G c.args.b c.args.skip.rule r₂ o.0.grown (c.loop-i.invariant.done r₂ h))
          (fork_done G s c.args.b c.requires.ready.fine c.args.skip.rule c.args.skip.from c.args.skip.to c.loop-i.i c.rule-item.result
          c.requires.rule (c.loop-i-test.true, sym c.rule-item.is)
          (λ e n p q w. d (line_on G c.args.b a.grown c.requires.ready.used.0 (together l.form c.args.skip.to l.second) w)));
    }

pub returns : goal.returns
returns g c = (c.loop-i.invariant.on, λ s f p u v n h h₂ k w. c.loop-i.invariant.done s (omega (arith, h₂.0)) f p u v n h h₂ k w)
