use Rattle.table.specs.Table.{tab}
use Rattle.table.proofs.Checking.{sound_bounded}
use Rattle.table.proofs.checked.Checked.new.Goals as goal

pub invariant_of-result : goal.invariant_of-result
invariant_of-result g c = record { bounded = sound_bounded c.args.role (tab c.args.table) c.in_ok-check.ensures }
