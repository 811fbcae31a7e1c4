use Rattle.std.proofs.Common.{ℕ, ◌<◌, arith, below_more}
use Rattle.examine.specs.Search.{setting, state}
use Rattle.examine.specs.Frontiers.{Begun}
use Rattle.examine.proofs.Claims.{on_more}
use Rattle.examine.proofs.Searching.{stop_due, begun_on, begun_low}
use Rattle.examine.proofs.product.Product.begin.Goals as goal

pub loop-second-preserved-then-not-are_final : goal.loop-second-preserved-then-not-are_final
loop-second-preserved-then-not-are_final g c =
    let G = setting g.C.Class.kinds c.args.self.now in
    record {
      on = c.loop-second.invariant.on;
      done = below_more (Begun G (state c.loop-second.draft) c.loop-form.form c.loop-first.first) c.loop-second.second c.loop-second.invariant.done
          (λ e. cc);
    }

pub claim-requires-clause-due : goal.claim-requires-clause-due
claim-requires-clause-due g c =
    let G = setting g.C.Class.kinds c.args.self.now in
    let a = c.loop-form-test.true in
    let b = c.loop-first-test.true in
    let d = c.loop-second-test.true in
    stop_due G (state c.loop-second.draft) c.loop-form.form c.loop-first.first c.loop-second.second (omega arith, omega arith, omega arith) c.if-not-are_final.ensures

pub loop-second-preserved : goal.loop-second-preserved
loop-second-preserved g c =
    let G = setting g.C.Class.kinds c.args.self.now in
    let o = c.in_ok-claim.ensures in
    record {
      on = on_more c.loop-second.invariant.on o.0;
      done = below_more (Begun G (state c.claim.new.draft) c.loop-form.form c.loop-first.first) c.loop-second.second
          (λ q h. begun_on G c.loop-form.form c.loop-first.first q o.0.grown (c.loop-second.invariant.done q h))
          (λ e. o.1);
    }

pub loop-first-preserved : goal.loop-first-preserved
loop-first-preserved g c =
    let G = setting g.C.Class.kinds c.args.self.now in
    let o = c.loop-second.invariant in
    let l = c.loop-second-test.false in
    record {
      on = on_more c.loop-first.invariant.on o.on;
      done = below_more (λ p. (q : ℕ) → q < c.args.self.now.states → Begun G (state c.loop-second.draft) c.loop-form.form p q) c.loop-first.first
          (λ p h q i. begun_on G c.loop-form.form p q o.on.grown (c.loop-first.invariant.done p h q i))
          (λ q i. o.done q (omega arith));
    }

pub loop-form-preserved : goal.loop-form-preserved
loop-form-preserved g c =
    let G = setting g.C.Class.kinds c.args.self.now in
    let o = c.loop-first.invariant in
    let l = c.loop-first-test.false in
    record {
      on = on_more c.loop-form.invariant.on o.on;
      done = below_more (λ f. (p q : ℕ) → p < c.args.self.now.states → q < c.args.self.now.states → Begun G (state c.loop-first.draft) f p q) c.loop-form.form
          (λ f h p q i j. begun_on G f p q o.on.grown (c.loop-form.invariant.done f h p q i j))
          (λ p q i j. o.done p (omega arith) q j);
    }

pub returns : goal.returns
returns g c =
    let l = c.loop-form-test.false in (
      c.loop-form.invariant.on,
      λ f p q e.
          let h = begun_low (setting g.C.Class.kinds c.args.self.now) c.requires f p q e in
          c.loop-form.invariant.done f (omega arith) p q h.1 h.2 e,
    )
