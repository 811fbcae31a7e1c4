use Rattle.std.proofs.Common.{sym, subst, arith}
use Rattle.table.specs.Sets.{Extent}
use Rattle.table.specs.Table.{tab}
use Rattle.table.proofs.Checking.{NamedBy, ends_extent, named_none, named_more, named_all}
use Rattle.table.proofs.check.state_count.Goals as goal

pub loop-rule-init : goal.loop-rule-init
loop-rule-init g c = named_none (tab c.args.table) _ (ends_extent (tab c.args.table) _ c.extent-count.ensures)

pub loop-rule-preserved : goal.loop-rule-preserved
loop-rule-preserved g c =
    subst (Extent (NamedBy (tab c.args.table) _)) (sym c.max-count.ensures)
    (named_more (tab c.args.table) c.loop-rule.rule-index c.loop-rule.count c.highest.result c.rule-item.result
    (c.loop-rule-test.true, sym c.rule-item.is) c.highest.ensures c.loop-rule.invariant)

pub returns : goal.returns
returns g c = named_all (tab c.args.table) _ _ (omega arith) c.loop-rule.invariant
