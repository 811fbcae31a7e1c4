use Rattle.std.proofs.Common.{length, Ok, inl, inr}
use Rattle.table.specs.Table.{tab}
use Rattle.boxes.proofs.Admitting.{after_lengths, refused_double}
use Rattle.boxes.proofs.Standing.{checked_there, refused_there}
use Rattle.boxes.proofs.stage.admit.check_admit.Goals as goal

pub returns-in_err-check_sheet : goal.returns-in_err-check_sheet
returns-in_err-check_sheet g c =
    refused_there (after_lengths g.C.Class.kinds (tab c.args.pattern) (length c.args.sheet.now) (length c.args.helper.now) c.args.sheet.now) c.in_ok-laid.ensures c.form-form.ensures
    c.from_residual-in_err-check_sheet.result _ c.from_residual-in_err-check_sheet.ensures.1 (inr (c.in_ok-check.ensures, inr (c.in_ok-check-2.ensures, inl c.in_err-check_sheet.ensures)))

pub returns-in_err-check_pattern_room : goal.returns-in_err-check_pattern_room
returns-in_err-check_pattern_room g c =
    refused_there (after_lengths g.C.Class.kinds (tab c.args.pattern) (length c.args.sheet.now) (length c.args.helper.now) c.args.sheet.now) c.in_ok-laid.ensures c.form-form.ensures
    c.from_residual-in_err-check_pattern_room.result _ c.from_residual-in_err-check_pattern_room.ensures.1
    (inr (c.in_ok-check.ensures, inr (c.in_ok-check-2.ensures, inr (c.in_ok-check_sheet.ensures, inl c.in_err-check_pattern_room.ensures))))

pub returns-in_err-examine : goal.returns-in_err-examine
returns-in_err-examine g c =
    refused_there (after_lengths g.C.Class.kinds (tab c.args.pattern) (length c.args.sheet.now) (length c.args.helper.now) c.examine.new.sheet) c.in_ok-laid.ensures c.form-form.ensures
    c.from_residual-in_err-examine.result _ c.from_residual-in_err-examine.ensures.1
    (inr (
      c.in_ok-check.ensures,
      inr (
        c.in_ok-check-2.ensures,
        inr (
          c.in_ok-check_sheet.ensures,
          inr (
            c.in_ok-check_pattern_room.ensures,
            inl (refused_double g.C.Class.kinds _ _ _ _ c.examine.new.sheet c.in_ok-check.ensures c.in_ok-check-2.ensures c.in_ok-check_sheet.ensures _ c.in_err-examine.ensures),
          ),
        ),
      ),
    ))

pub returns : goal.returns
returns g c =
    checked_there (after_lengths g.C.Class.kinds (tab c.args.pattern) (length c.args.sheet.now) (length c.args.helper.now) c.examine.new.sheet) c.in_ok-laid.ensures c.form-form.ensures (Ok tt)
    (c.in_ok-check.ensures, (c.in_ok-check-2.ensures, (c.in_ok-check_sheet.ensures, (c.in_ok-check_pattern_room.ensures, (c.in_ok-examine.ensures.1, tt)))))
