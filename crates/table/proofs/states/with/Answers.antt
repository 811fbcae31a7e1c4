use Rattle.table.proofs.Bits.{bit_with}
use Rattle.table.proofs.states.with.Goals as goal

pub returns : goal.returns
returns c q = bit_with c.args.set c.args.state q c.requires
