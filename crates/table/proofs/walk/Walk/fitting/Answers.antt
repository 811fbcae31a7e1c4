use Rattle.std.proofs.Common.{sym, ap, ◌∙◌}
use Rattle.table.specs.Sets.{bit}
use Rattle.table.specs.Table.{tab}
use Rattle.table.proofs.Filling.{fits_none, fits_some}
use Rattle.table.proofs.walk.Walk.fitting.Goals as goal

pub returns-in-None : goal.returns-in-None
returns-in-None g c =
    fits_none g.C.Class.kinds (tab c.args.self.now.checked.table) (g.R.Runs.seen c.args.self.now.run.now) c.args.self.now.places.lower c.requires.plain c.args.place (sym c.look.ensures.seen ∙ c.in-None.is)

pub returns-in-Some : goal.returns-in-Some
returns-in-Some g c =
    fits_some g.C.Class.kinds (tab c.args.self.now.checked.table) (g.R.Runs.seen c.args.self.now.run.now) c.args.self.now.places.lower c.requires.plain c.args.place c.in-Some.node
    c.args.scratch.now (sym c.look.ensures.seen ∙ c.in-Some.is) c.requires.fitted
    (bit c.number-inside.result) (bit c.number-after.result) (bit c.sources.result)
    (ap bit c.number-inside.ensures) (ap bit c.number-after.ensures) c.sources.ensures
