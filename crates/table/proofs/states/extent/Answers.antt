use Rattle.std.proofs.Common.{◌≡◌, ◌-◌, subst, arith}
use lib.Count.{count_leading_zeros, leading_length}
use Rattle.table.specs.Sets.{Bit, Extent}
use Rattle.table.proofs.Bits.{extent_of}
use Rattle.table.proofs.states.extent.Goals as goal

pub returns : goal.returns
returns c =
    let m = c.args.set in
    let l = leading_length 64 m (omega arith) in
    let e : l.0 ≡ 64 - count_leading_zeros 64 m = omega (arith, l.1) in
    subst (Extent (Bit m)) e (extent_of m l.0 l.2 l.3)
