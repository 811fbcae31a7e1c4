use Rattle.std.proofs.Common.{◌-◌, rules}
use Rattle.notation.proofs.Quoted.{quoted_at}
use Rattle.notation.proofs.scan.Cursor.text.Goals as goal

pub returns : goal.returns
returns c =
    let line = c.expect.new.self.bytes.now in
    let from = c.expect.new.self.at in
    let u = c.in_ok-bytes.field-0 in
    let took = c.in_ok-expect.ensures in
    let read = c.in_ok-bytes.ensures in
    record {
      passed = search rules;
      start = from - 1;
      from = search rules;
      quoted = quoted_at line from u.end _ (search rules) (search rules) (search rules) (search rules) (search rules) read.spelt;
    }
