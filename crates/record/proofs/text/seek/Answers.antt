use Rattle.std.proofs.Common.{arith}
use Rattle.record.proofs.Finds.{seek_first, steps, unstarted}
use Rattle.record.proofs.text.seek.Goals as goal

pub loop-at-init : goal.loop-at-init
loop-at-init c = seek_first c.args.bytes.now c.args.offset c.requires

pub open-head-requires : goal.open-head-requires
open-head-requires c = (record { at_in_bounds = (steps c.loop-at-test.true c.loop-at.invariant).head_fits; bytes_len_bound = c.requires.size })

pub returns-then-offset-at : goal.returns-then-offset-at
returns-then-offset-at c = (steps c.loop-at-test.true c.loop-at.invariant).found c.open-head.ensures c.if-offset-at.true

pub loop-at-smaller-then-offset-head : goal.loop-at-smaller-then-offset-head
loop-at-smaller-then-offset-head c = let f = (steps c.loop-at-test.true c.loop-at.invariant).falls c.open-head.ensures in omega arith

pub loop-at-preserved-then-offset-head : goal.loop-at-preserved-then-offset-head
loop-at-preserved-then-offset-head c = (steps c.loop-at-test.true c.loop-at.invariant).inward c.open-head.ensures c.if-offset-at.false c.if-offset-head.true

pub loop-at-preserved : goal.loop-at-preserved
loop-at-preserved c = (steps c.loop-at-test.true c.loop-at.invariant).onward c.open-head.ensures c.if-offset-at.false c.if-offset-head.false

pub returns : goal.returns
returns c = unstarted c.loop-at-test.false c.loop-at.invariant
