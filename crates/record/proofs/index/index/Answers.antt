use Rattle.std.proofs.Common.{rules}
use Rattle.record.proofs.Fills.{first_fillable, indexed_as}
use Rattle.record.proofs.index.index.Goals as goal

pub fill_run-requires : goal.fill_run-requires
fill_run-requires c = first_fillable c.in_ok-count.ensures (search rules)

pub returns : goal.returns
returns c = indexed_as c.args.list.now c.fill_run.new.list c.fill_run.auto.list (search rules) c.in_ok-count.ensures c.fill_run.ensures
