use Rattle.std.proofs.Common.{rules}
use Rattle.replay.proofs.Written.{rules_none, rules_more}
use Rattle.replay.proofs.rules.rules_of.Goals as goal

pub loop-number-init : goal.loop-number-init
loop-number-init g c = rules_none g.C.Written.writes c.args.text.now.rules.items c.new-rules.result.items c.new-rules.ensures.items

pub loop-number-preserved : goal.loop-number-preserved
loop-number-preserved g c =
    rules_more g.C.Written.writes c.deref-rule-items.result.now c.args.text.now.rules.items c.loop-number.rules.items c.push.new.self.items c.loop-number.number _ c.in_ok-rule_of.field-0
    c.deref-rule-items.ensures.value (search rules) c.in_ok-push.ensures.items c.in_ok-rule_of.ensures.written c.loop-number.invariant
