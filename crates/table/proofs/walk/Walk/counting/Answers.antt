use Rattle.std.proofs.Common.{Some, None, sym, refl, ◌∙◌}
use Rattle.table.specs.Table.{tab}
use Rattle.table.specs.Counting.{sets}
use Rattle.table.proofs.Bits.{no_bit}
use Rattle.table.proofs.Firsts.{end_base}
use Rattle.table.proofs.Rounds.{pairset}
use Rattle.table.proofs.Filling.{exact_none, exact_some}
use Rattle.table.proofs.walk.Walk.counting.Goals as goal

pub returns-in-None : goal.returns-in-None
returns-in-None g c =
    let K = g.C.Class.kinds in
    let T = tab c.args.self.now.checked.table in
    let i = pairset 0 0 in
    exact_none K T (g.R.Runs.seen c.args.self.now.run.now) c.args.self.now.places.lower c.args.place i i (sets c.settle.result) (sym c.look.ensures.seen ∙ c.in-None.is)
    (c.settle.ensures None i i (λ h. end_base K T h i i (pairset c.args.self.now.checked.table.finals 0) (λ q. refl) no_bit))

pub returns-in-Some : goal.returns-in-Some
returns-in-Some g c =
    let K = g.C.Class.kinds in
    let T = tab c.args.self.now.checked.table in
    let i = sets c.counted_at-inside.result in
    let a = sets c.counted_at-after.result in
    exact_some K T (g.R.Runs.seen c.args.self.now.run.now) c.args.self.now.places.lower c.args.place c.in-Some.node i a (sets c.settle-in-Some.result) c.args.scratch.now
    (sym c.look.ensures.seen ∙ c.in-Some.is) c.requires.filled
    (sym c.counted_at-inside.ensures)
    (sym c.counted_at-after.ensures)
    (c.settle-in-Some.ensures (Some c.in-Some.node.kind) i a c.node_base.ensures)
