use Rattle.std.proofs.Common.{rules}
use Rattle.notation.proofs.Quoted.{spelt_plain, spelt_letter, spelt_hex}
use Rattle.notation.proofs.quote.first.Goals as goal

pub returns-in_ok-byte-in-92 : goal.returns-in_ok-byte-in-92
returns-in_ok-byte-in-92 c =
    record {
      some = search rules;
      within = search rules;
      spelt =
          spelt_hex c.args.rest.now c.in_ok-byte-in-92.byte (search rules) (search rules) (search rules) (search rules);
    }

pub returns-in_ok-byte-in-92-2 : goal.returns-in_ok-byte-in-92-2
returns-in_ok-byte-in-92-2 c =
    record {
      some = search rules;
      within = search rules;
      spelt = spelt_letter c.args.rest.now c.in_ok-byte-in-92-2.byte (search rules) (search rules) (search rules);
    }

pub returns-in-len1-up : goal.returns-in-len1-up
returns-in-len1-up c =
    record {
      some = search rules;
      within = search rules;
      spelt = spelt_plain c.args.rest.now (search rules) (search rules) (search rules);
    }
