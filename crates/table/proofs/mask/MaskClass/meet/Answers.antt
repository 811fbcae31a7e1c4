use Rattle.std.proofs.Common.{ap₂}
use lib.Bits.{bit_and}
use Rattle.table.proofs.Masks.{met}
use Rattle.table.proofs.mask.MaskClass.meet.Goals as goal

pub returns : goal.returns
returns c =
    met c.args.self.now c.args.other.now _ c.new.result c.ok.result (ap₂ bit_and c.meant_bits.ensures c.meant_bits-2.ensures) c.new.ensures c.ok.ensures.value
