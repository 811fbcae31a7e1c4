-- The refusals of the record layer: the number of each, and its place.
use Rattle.std.specs.Prelude.{ℕ}
use Rattle.record.specs.declared.fault.Flaw.{Flaw}
use Rattle.record.specs.declared.fault.Flaw.TheVariants.{TooDeep, TooMany, CutShort, TextTooLong}
use Rattle.record.specs.declared.fault.Cause.{Cause}
use Rattle.record.specs.declared.fault.Cause.TheVariants.{TooLong, Flawed, ShortList, NoNode}
use Rattle.record.specs.declared.fault.Refusal.{Refusal}
use Rattle.record.specs.Limits.{max_nodes}

abbrev pub number : Cause → ℕ
number TooLong = 1
number (Flawed CutShort) = 2
number (Flawed TextTooLong) = 3
number (Flawed TooDeep) = 4
number (Flawed TooMany) = 5
number ShortList = 8
number NoNode = 13

-- a refusal of the record layer
abbrev pub Fault : Type 0
Fault = Refusal Cause

-- too many bytes
abbrev pub too_long : Fault
too_long = record { cause = TooLong; place = 0 }

-- a node with a flaw, at its offset
abbrev pub flawed : Flaw → ℕ → Fault
flawed f o = record { cause = Flawed f; place = o }

-- a list too short for an index, with the length needed
abbrev pub short_list : Fault
short_list = record { cause = ShortList; place = max_nodes }

-- an offset where no node starts
abbrev pub no_node : Fault
no_node = record { cause = NoNode; place = 3 }
