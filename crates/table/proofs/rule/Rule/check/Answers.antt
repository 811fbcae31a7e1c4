use Rattle.std.proofs.Common.{sym, arith}
use Rattle.std.proofs.lemmas.Bool.{both_ways}
use Rattle.table.proofs.rule.Rule.check.Goals as goal

pub returns : goal.returns
returns g c =
    record {
      placed = both_ways _ (sym c.if-is_misplaced.ensures);
      below = λ q n. let l = c.highest.ensures.most q n in omega arith;
    }
