-- Complaints about a whole file or a block.
use Rattle.std.specs.Prelude.{ℕ, Some, None}
use Rattle.notation.specs.declared.complaint.What.{What}
use Rattle.notation.specs.declared.complaint.Complaint.{Complaint}

-- a complaint with no position
abbrev pub about_file : What → Complaint
about_file w = record { position = None; what = w }

-- a complaint at the first column of a line
abbrev pub about_block : ℕ → What → Complaint
about_block l w = record { position = Some (record { line = l; column = 1 }); what = w }
