use Rattle.std.proofs.Common.{◌≡◌, ℕ, ◌+◌, ◌-◌, ◌*◌, ◌≤◌}
use Rattle.record.specs.Parse.{at, Ready, RunParsed}
use Rattle.record.proofs.parse.Rest.+parsing.Given as goal

abbrev pub decreases-parse_node : goal.decreases-parse_node
decreases-parse_node l = 2 * (l.self.now.end - l.self.now.at)

abbrev pub decreases-parse_run : goal.decreases-parse_run
decreases-parse_run l = 2 * (l.self.now.end - l.self.now.at) + 1

abbrev pub decreases-parse_run-loop-rest : goal.decreases-parse_run-loop-rest
decreases-parse_run-loop-rest l = l.rest.end - l.rest.at

abbrev pub invariant-parse_run-loop-rest : goal.invariant-parse_run-loop-rest
invariant-parse_run-loop-rest l =
    record {
      same : l.rest.bytes ≡ l.self.bytes;
      end : l.rest.end ≡ l.self.end;
      up : l.self.at ≤ l.rest.at;
      ready : at Ready l.rest;
      whole : (n : ℕ) → at RunParsed l.rest n → at RunParsed l.self n;
    }
