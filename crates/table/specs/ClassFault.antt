-- The refusal of the class layer, and its number.
use Rattle.std.specs.Prelude.{ℕ}
use Rattle.table.specs.declared.class_fault.ClassCause.{ClassCause}
use Rattle.table.specs.declared.class_fault.ClassCause.TheVariants.{NoKinds}
use Rattle.record.specs.declared.fault.Refusal.{Refusal}

abbrev pub class_number : ClassCause → ℕ
class_number NoKinds = 17

abbrev pub ClassFault : Type 0
ClassFault = Refusal ClassCause

abbrev pub no_kinds : ClassFault
no_kinds = record { cause = NoKinds; place = 0 }
