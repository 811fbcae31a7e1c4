use Rattle.std.proofs.Common.{◌≡◌, ◌+◌, length, ◌∙◌, rules}
use Rattle.record.specs.Numbers.{le}
use Rattle.notation.proofs.Spelling.{le_two, le_four, bytes_typed, five}
use Rattle.notation.proofs.node.push_node.Goals as goal

pub returns : goal.returns
returns c =
    let text = c.args.text.now in
    let inside = c.args.inside.now in
    let size : c.to_le_bytes.result ≡ le 4 (4 + length text + length inside) = c.to_le_bytes.ensures ∙ le_four _ in
    let kind : c.to_le_bytes-2.result ≡ le 2 c.args.kind = c.to_le_bytes-2.ensures ∙ le_two _ in
    let words : c.to_le_bytes-3.result ≡ le 2 (length text) = c.to_le_bytes-3.ensures ∙ le_two _ in
    record {
      is =
          five _ _ _ _ _ _ _ _ _ text inside _ _ _ size kind words c.in_ok-extend_from_slice.ensures.items c.in_ok-extend_from_slice-2.ensures.items c.in_ok-extend_from_slice-3.ensures.items c.in_ok-extend_from_slice-4.ensures.items c.in_ok-extend_from_slice-5.ensures.items;
      kind_fits = search rules;
      text_bytes = bytes_typed text (λ i. (c.type_inv.text i).fits);
      text_fits = search rules;
      size_fits = search rules;
    }
