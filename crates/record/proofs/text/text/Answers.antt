use Rattle.std.proofs.Common.{rules, Some, ◌≡◌}
use Rattle.record.specs.Numbers.{between}
use Rattle.record.proofs.text.text.Goals as goal

-- the part that is handed out is `between`
pub returns : goal.returns
unfolding between
returns c = let e : c.seek.result ≡ Some c.in_ok-head.head = search rules in let f = rw e at c.seek.ensures in f.texted
