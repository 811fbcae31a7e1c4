use Rattle.std.proofs.Common.{arith}
use Rattle.examine.specs.Search.{setting}
use Rattle.examine.proofs.Claims.{on_more, used_few}
use Rattle.examine.proofs.Searching.{tried_after, tried_inside, tried_all, begun_on}
use Rattle.examine.proofs.product.Product.search.Goals as goal

pub loop-a-smaller-then-b-draft : goal.loop-a-smaller-then-b-draft
loop-a-smaller-then-b-draft g c = let h = used_few c.loop-a.invariant.on.fine in omega arith

pub loop-a-preserved-then-b-draft : goal.loop-a-preserved-then-b-draft
loop-a-preserved-then-b-draft g c =
    let G = setting g.C.Class.kinds c.args.self.now in
    let v = c.loop-a.invariant in
    let o = c.in_ok-follow.ensures in
    let m = o.0.grown.more in
    let i = c.if-b-draft.true in
    record {
      on = on_more v.on o.0;
      tried = tried_after G c.loop-a.a c.loop-a.b o.0 v.tried i v.order o.1;
      above = v.above;
      order = omega arith;
      below = omega arith;
    }

pub loop-a-smaller : goal.loop-a-smaller
loop-a-smaller g c = let h = used_few c.loop-a.invariant.on.fine in omega arith

pub loop-a-preserved : goal.loop-a-preserved
loop-a-preserved g c =
    let G = setting g.C.Class.kinds c.args.self.now in
    let v = c.loop-a.invariant in
    let o = c.in_ok-joins.ensures in
    let m = o.0.grown.more in
    let i = c.if-b-draft.false in
    let j = c.loop-a-test.true in
    record {
      on = on_more v.on o.0;
      tried = tried_inside G c.loop-a.a c.loop-a.b o.0 v.tried j v.below o.1;
      above = omega arith;
      order = omega arith;
      below = omega arith;
    }

pub returns : goal.returns
returns g c =
    let G = setting g.C.Class.kinds c.args.self.now in
    let v = c.loop-a.invariant in
    let o = c.in_ok-begin.ensures in
    let i = c.loop-a-test.false in
    let j = v.order in
    (on_more o.0 v.on, tried_all G c.loop-a.a c.loop-a.b v.on.fine v.tried i (omega arith) (λ f p q. begun_on G f p q v.on.grown (o.1 f p q)))
