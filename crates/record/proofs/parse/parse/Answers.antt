use Rattle.std.proofs.Common.{inr, arith, rules}
use Rattle.std.proofs.lemmas.Result.{MatchResult-weaker}
use Rattle.record.proofs.Parsing.{bytes_from, ready_first, recorded}
use Rattle.record.proofs.parse.parse.Goals as goal

pub parse_run-requires : goal.parse_run-requires
parse_run-requires c = ready_first c.args.bytes.now (bytes_from c.args.bytes.now (λ i. let h = c.type_inv.bytes i in omega arith)) (search rules)

pub returns : goal.returns
returns c = MatchResult-weaker c.parse_run.result c.parse_run.ensures (λ n v. recorded (search rules) v) (λ e f. inr f)
