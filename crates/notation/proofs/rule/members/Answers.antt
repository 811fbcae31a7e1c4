use Rattle.std.proofs.Common.{◌<◌, rules}
use Rattle.std.proofs.lemmas.Nat.{or_lt}
use Rattle.notation.proofs.Sets.{bit_below}
use Rattle.notation.proofs.rule.members.Goals as goal

pub loop-member-init : goal.loop-member-init
loop-member-init g c =
    let n : c.in_ok-set.field-0 < c.args.size = search rules in
    bit_below c.args.size _ n

pub loop-member-preserved : goal.loop-member-preserved
loop-member-preserved g c =
    let n : c.in_ok-set-2.field-0 < c.args.size = search rules in
    or_lt c.args.size c.loop-member.set _ c.loop-member.invariant (bit_below c.args.size _ n)
