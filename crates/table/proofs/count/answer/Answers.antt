use Rattle.table.proofs.Told.{tells_many, tells_some}
use Rattle.table.proofs.count.answer.Goals as goal

pub returns-then-starts-counted-ne0 : goal.returns-then-starts-counted-ne0
returns-then-starts-counted-ne0 c = tells_many c.args.starts c.args.counted.some c.args.counted.many c.if-starts-counted-ne0.true

pub returns : goal.returns
returns c = tells_some c.args.starts c.args.counted.some c.args.counted.many c.if-starts-counted-ne0.false c.min.result c.min.ensures
