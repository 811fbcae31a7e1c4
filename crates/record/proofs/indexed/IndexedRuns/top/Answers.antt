use Rattle.std.proofs.Common.{rules}
use Rattle.record.proofs.Looks.{shown_places}
use Rattle.record.proofs.indexed.IndexedRuns.top.Goals as goal

pub returns : goal.returns
returns c = record { is = search rules; places = shown_places c.args.self.now.list.now c.args.self.now.top }
