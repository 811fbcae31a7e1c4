use Rattle.std.proofs.Common.{vec_items, rules}
use Rattle.std.proofs.lemmas.List.{take_rest}
use Rattle.notation.proofs.Quoted.{spells_more, spells_nothing}
use Rattle.notation.proofs.quote.unquote.Goals as goal

pub loop-piece-init : goal.loop-piece-init
loop-piece-init c = (search rules, search rules, spells_nothing c.args.line.now c.args.from _ c.new-bytes.ensures.items)

pub loop-piece-preserved : goal.loop-piece-preserved
loop-piece-preserved c = (
  search rules,
  search rules,
  spells_more c.args.line.now c.args.from c.loop-piece.end c.in-Some.piece _ (vec_items c.loop-piece.bytes) _ c.loop-piece.invariant.0 (take_rest c.args.line.now c.loop-piece.end) c.loop-piece.invariant.2 c.in-Some.ensures c.in_ok-push.ensures.items,
)
