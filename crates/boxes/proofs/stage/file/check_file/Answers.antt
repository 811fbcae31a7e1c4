use Rattle.std.proofs.Common.{length, inl, inr}
use Rattle.table.specs.Table.{tab}
use Rattle.boxes.specs.Stage.{world}
use Rattle.boxes.proofs.Filing.{before_fit, after_lengths}
use Rattle.boxes.proofs.Standing.{checked_there, refused_there, checked_last}
use Rattle.boxes.proofs.stage.file.check_file.Goals as goal

pub returns-in_err-check_record_room : goal.returns-in_err-check_record_room
returns-in_err-check_record_room g c =
    refused_there (after_lengths g.C.Class.kinds c.args.bytes.now (length c.args.list.now) (length c.args.scratch.now)) c.in_ok-laid.ensures c.form-form.ensures
    c.from_residual-in_err-check_record_room.result _ c.from_residual-in_err-check_record_room.ensures.1
    (inr (c.in_ok-check.ensures, inr (c.in_ok-check_buffers.ensures, inr (c.in_ok-top.ensures.is, inl c.in_err-check_record_room.ensures))))

pub returns : goal.returns
returns g c =
    checked_there (after_lengths g.C.Class.kinds c.args.bytes.now (length c.args.list.now) (length c.args.scratch.now)) c.in_ok-laid.ensures c.form-form.ensures c.check_fits.result
    (checked_last (before_fit g.C.Class.kinds c.args.bytes.now (length c.args.list.now) (length c.args.scratch.now) (world c.in_ok-laid.laid) (tab c.form-form.result)) _ _
    (c.in_ok-check.ensures, (c.in_ok-check_buffers.ensures, (c.in_ok-top.ensures.is, (c.in_ok-check_record_room.ensures, tt)))) c.check_fits.ensures)
