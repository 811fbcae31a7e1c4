use Rattle.std.proofs.Common.{rules}
use Rattle.examine.proofs.Looks.{shown_places}
use Rattle.examine.proofs.sheet.SheetRuns.top.Goals as goal

pub returns : goal.returns
returns c = record { is = search rules; places = shown_places c.args.self.now.lines.now c.args.self.now.top }
