-- Bytes are a record or refused, in one way.
use Rattle.std.proofs.Common.{sym, ◌∙◌}
use Rattle.record.specs.Record.{OneVerdict}
use Rattle.record.proofs.Injective.{injective_holds}
use Rattle.record.proofs.Total.{some_verdict}
use Rattle.record.proofs.Walk.{not_both, one_refusal}

pub one_verdict : OneVerdict
one_verdict =
    record {
      some = some_verdict;
      one_value = λ bytes r s. injective_holds r.nodes s.nodes r.fits s.fits (r.spelt ∙ sym s.spelt);
      not_both = not_both;
      one_refusal = one_refusal;
    }
