use Rattle.std.proofs.Common.{get_or, refl, rules}
use Rattle.notation.proofs.Digits.{value_step, digits_step}
use Rattle.notation.proofs.number.decimal.Goals as goal

pub loop-digit-preserved : goal.loop-digit-preserved
loop-digit-preserved c =
    let word = c.args.word.now in
    let i = c.loop-digit.digit-index in (
      search rules,
      value_step word i c.loop-digit.number (get_or word i 0) (search rules) refl (search rules) (search rules) c.loop-digit.invariant.1,
      digits_step word i (get_or word i 0) (search rules) refl (search rules) (search rules) c.loop-digit.invariant.2,
    )
