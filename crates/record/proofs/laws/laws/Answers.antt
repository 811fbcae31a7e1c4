use Rattle.record.proofs.Numbers.{numbers_kept}
use Rattle.record.proofs.Injective.{injective_holds}
use Rattle.record.proofs.Flaws.{one_flaw}
use Rattle.record.proofs.Verdict.{one_verdict}
use Rattle.record.proofs.Offsets.{only_limits_hold, offsets_hold}
use Rattle.record.proofs.Places.{unfolds_holds}
use Rattle.record.proofs.Indexing.{index_holds}
use Rattle.record.proofs.Outcomes.{one_outcome}
use Rattle.record.proofs.Examples.{examples_hold}
use Rattle.record.proofs.laws.laws.Goals as goal

pub returns : goal.returns
returns c =
    record {
      numbers = numbers_kept;
      injective = injective_holds;
      flaws = one_flaw;
      verdict = one_verdict;
      limits = only_limits_hold;
      unfolds = unfolds_holds;
      index = index_holds;
      offsets = offsets_hold;
      outcomes = one_outcome;
      examples = examples_hold;
    }
