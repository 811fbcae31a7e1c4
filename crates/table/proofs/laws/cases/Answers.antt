use Rattle.table.proofs.Samples.{cases_hold}
use Rattle.table.proofs.laws.cases.Goals as goal

pub returns : goal.returns
returns c = cases_hold
