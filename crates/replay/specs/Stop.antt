-- Why a call of a box file is not made, or is refused.
use Rattle.std.specs.Prelude.{◌≡◌, ℕ, List, Some, None, Err, Option, Result}
use Rattle.table.specs.ClassFault.{ClassFault}
use Rattle.table.specs.Table.{At}
use Rattle.boxes.specs.declared.fault.Fault.{Fault}
use Rattle.notation.specs.declared.value.ClassText.{ClassText}
use Rattle.notation.specs.declared.value.StepText.{StepText}
use Rattle.notation.specs.declared.value.StepText.TheVariants.{Empty, Node}
use Rattle.notation.specs.declared.value.RuleText.{RuleText}
use Rattle.replay.specs.declared.stop.Stop.{Stop}
use Rattle.replay.specs.declared.stop.Stop.TheVariants.{Memory, OtherWriting, BadClass, Refused}

module _ {C : Type 0} (writes : ClassText → Option (Result C ClassFault) → Type 0) where
  -- the step's class is written in the other way
  abbrev pub OtherStep : StepText → Type 0
  OtherStep Empty = ⊥
  OtherStep (Node class inside marks) = writes class None

  -- the step's class is refused when it is made
  abbrev pub BadStep : StepText → ClassFault → Type 0
  BadStep Empty fault = ⊥
  BadStep (Node class inside marks) fault = writes class (Some (Err fault))

  -- why rule n, as written, is not made
  abbrev pub RuleStops : RuleText → ℕ → Stop → Type 0
  RuleStops t n OtherWriting = OtherStep t.step
  RuleStops t n (BadClass k fault) = (k ≡ n) × BadStep t.step fault
  RuleStops t n Memory = ⊥
  RuleStops t n (Refused f) = ⊥

  -- why a call with a table of these rules stops: no memory, a rule that is not made, or a refusal, of which P holds
  abbrev pub TableStops : List RuleText → (Fault → Type 0) → Stop → Type 0
  TableStops ts P Memory = Unit {0}
  TableStops ts P OtherWriting = (k : ℕ) × (t : RuleText) × At ts k t × OtherStep t.step
  TableStops ts P (BadClass k fault) = (t : RuleText) × At ts k t × BadStep t.step fault
  TableStops ts P (Refused f) = P f

-- why a call with bytes stops: a refusal, of which P holds
abbrev pub BytesStop : (Fault → Type 0) → Stop → Type 0
BytesStop P (Refused f) = P f
BytesStop P Memory = ⊥
BytesStop P OtherWriting = ⊥
BytesStop P (BadClass k fault) = ⊥
