use Rattle.std.proofs.Common.{◌≡◌, ◌<◌, length, sym, subst, arith}
use Rattle.table.specs.Table.{tab}
use Rattle.table.specs.Scratch.{number_at}
use Rattle.table.proofs.Spanning.{spans_seen}
use Rattle.table.proofs.Passing.{LitAbove, lit_none, lit_more, lit_all}
use Rattle.table.proofs.walk.Walk.list.Goals as goal

pub loop-place-init : goal.loop-place-init
loop-place-init g c =
    let K = g.C.Class.kinds in
    let T = tab c.args.self.now.checked.table in
    let seen = g.R.Runs.seen c.args.self.now.run.now in
    let top = c.args.self.now.top in (
      omega arith,
      λ spans.
          subst (LitAbove K T seen top top) (sym c.set_number.ensures)
          (lit_none K T seen c.args.self.now.places.lower top c.args.scratch.now (omega (arith, c.requires.room)) c.requires.filled),
    )

pub loop-place-preserved : goal.loop-place-preserved
loop-place-preserved g c =
    let K = g.C.Class.kinds in
    let T = tab c.args.self.now.checked.table in
    let seen = g.R.Runs.seen c.args.self.now.run.now in
    let top = c.args.self.now.top in
    let p = c.loop-place.place in
    let low = c.loop-place.invariant.0 in
    let room : number_at top 2 < length c.loop-place.scratch = omega (arith, c.requires.room, c.set_number.auto.scratch, c.loop-place.auto.scratch) in (
      omega arith,
      λ spans.
          let n = spans_seen seen c.args.self.now.places.lower spans p c.loop-place-test.true (omega arith) in
          lit_more K T seen c.args.self.now.places.lower top p n.0 c.loop-place.scratch c.list_place.new.scratch spans c.loop-place-test.true low n.1 room
          (c.list_place.ensures n.0 n.1) (c.loop-place.invariant.1 spans),
    )

pub returns : goal.returns
returns g c spans =
    let K = g.C.Class.kinds in
    let T = tab c.args.self.now.checked.table in
    let seen = g.R.Runs.seen c.args.self.now.run.now in
    let top = c.args.self.now.top in
    let z : c.loop-place.place ≡ 0 = omega arith in
    lit_all K T seen c.args.self.now.places.lower top c.loop-place.scratch spans
    (subst (λ p. LitAbove K T seen top p c.loop-place.scratch) z (c.loop-place.invariant.1 spans))
