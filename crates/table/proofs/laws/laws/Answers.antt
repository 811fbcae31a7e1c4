use Rattle.table.proofs.Outcomes.{one_check}
use Rattle.table.proofs.Checking.{form_plain}
use Rattle.table.proofs.Meaning.{meanings_hold, states_counted}
use Rattle.table.proofs.Existing.{some_count}
use Rattle.table.proofs.One.{one_count, at_most_one, one_outcome}
use Rattle.table.proofs.laws.laws.Goals as goal

pub returns : goal.returns
returns g c =
    let K = g.C.Class.kinds in
    record {
      check = one_check;
      plain = form_plain;
      states = states_counted;
      count = some_count K;
      one_count = λ T w. one_count K T w;
      at_most_one = at_most_one K;
      outcomes = one_outcome K;
      meanings = meanings_hold;
    }
