use Rattle.std.proofs.Common.{sym, refl, inl, inr, arith}
use Rattle.table.specs.Table.{tab}
use Rattle.table.specs.Check.{Ends, SoundRule, limit}
use Rattle.table.proofs.Checking.{ends_extent, beyond, within}
use Rattle.table.proofs.Rules.{at_more}
use Rattle.table.proofs.check.check.Goals as goal

pub returns-then-extent-states : goal.returns-then-extent-states
returns-then-extent-states g c =
    let T = tab c.args.table in
    inr (inl (omega arith, beyond (Ends T) c.extent.result (limit c.args.role) (ends_extent T c.extent.result c.extent.ensures) (omega arith), refl))

pub returns-in-Err : goal.returns-in-Err
returns-in-Err g c =
    let T = tab c.args.table in
    inr (inr (record {
      few = omega arith;
      ends = within (Ends T) c.extent.result (limit c.args.role) (ends_extent T c.extent.result c.extent.ensures) (omega arith);
      number = c.loop-i.i;
      rule = c.rule-item.result;
      at = (omega arith, sym c.rule-item.is);
      before = c.loop-i.invariant;
      cause = c.in-Err.cause;
      faulty = c.in-Err.ensures;
      is = refl;
    }))

pub loop-i-preserved : goal.loop-i-preserved
loop-i-preserved g c =
    at_more (SoundRule c.args.role) c.args.table.rules.now c.loop-i.i c.rule-item.result
    (omega arith, sym c.rule-item.is) c.in_default.ensures c.loop-i.invariant

pub returns : goal.returns
returns g c =
    let T = tab c.args.table in
    record {
      few = omega arith;
      ends = within (Ends T) c.extent.result (limit c.args.role) (ends_extent T c.extent.result c.extent.ensures) (omega arith);
      rules = λ i x at. c.loop-i.invariant i x (omega (arith, at.0)) at;
    }
