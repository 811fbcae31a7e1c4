use Rattle.std.proofs.Common.{◌^◌, ◌<◌, arith, rules}
use lib.Bits.{or_lt}
use Rattle.table.specs.Table.{tab}
use Rattle.std.proofs.lemmas.Nat.{le_or_l}
use Rattle.table.proofs.Using.{living_none, living_more, living_all}
use Rattle.table.proofs.checked.Checked.alive.Goals as goal

pub loop-live-init : goal.loop-live-init
loop-live-init g c = (search rules, living_none (tab c.args.self.now.table) c.args.some c.args.enter)

pub returns-then-next-live : goal.returns-then-next-live
returns-then-next-live g c =
    living_all (tab c.args.self.now.table) c.args.some c.args.enter c.loop-live.live c.slid.result c.slid.ensures c.loop-live.invariant.1 c.if-next-live.true

pub loop-live-smaller : goal.loop-live-smaller
loop-live-smaller g c =
    let x : c.slid.result < 2 ^ 64 = search rules in
    let l = le_or_l c.loop-live.live c.slid.result in
    let u = or_lt 64 c.loop-live.live c.slid.result c.loop-live.invariant.0 x in
    omega arith

pub loop-live-preserved : goal.loop-live-preserved
loop-live-preserved g c = (
  or_lt 64 c.loop-live.live c.slid.result c.loop-live.invariant.0 (search rules),
  living_more (tab c.args.self.now.table) c.args.some c.args.enter c.loop-live.live c.slid.result c.slid.ensures c.loop-live.invariant.1,
)
