use Rattle.std.proofs.Common.{◌+◌, arith}
use Rattle.record.proofs.Numbers.{word_at, half_at}
use Rattle.record.proofs.parse.open.Goals as goal

pub returns : goal.returns
returns c =
    let o = c.args.at in
    let room = c.requires.at_in_bounds in
    let size = word_at c.args.bytes.now o (omega arith) in
    let kind = half_at c.args.bytes.now (o + 4) (o + 5) (o + 6) (omega arith) (omega arith) (omega arith) in
    let text = half_at c.args.bytes.now (o + 6) (o + 7) (o + 8) (omega arith) (omega arith) (omega arith) in
    let size_read = c.from_le_bytes-size.ensures in
    let kind_read = c.from_le_bytes-kind.ensures in
    let text_read = c.from_le_bytes-text.ensures in
    record { kind_is = omega arith; inside_is = omega arith; end_is = omega arith }
