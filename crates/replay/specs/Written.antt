-- Classes, rules and tables as box files write them.
use Rattle.std.specs.Prelude.{◌≡◌, List, [], ◌∷◌, ◌++◌, Some, None, Ok, Option, Result}
use Rattle.table.specs.declared.mask.Mask.{Mask}
use Rattle.table.specs.declared.range.Range.{Range}
use Rattle.table.specs.ClassFault.{ClassFault}
use Rattle.table.specs.declared.rule.Rule.{Rule}
use Rattle.table.specs.declared.rule.Step.{Step}
use Rattle.table.specs.declared.rule.Step.TheVariants as step
use Rattle.table.specs.Mask.{MakesMask}
use Rattle.table.specs.Range.{MakesRange}
use Rattle.table.specs.Table.{Tab}
use Rattle.notation.specs.declared.value.ClassText.{ClassText}
use Rattle.notation.specs.declared.value.ClassText.TheVariants as class
use Rattle.notation.specs.declared.value.StepText.{StepText}
use Rattle.notation.specs.declared.value.StepText.TheVariants as text
use Rattle.notation.specs.declared.value.RuleText.{RuleText}
use Rattle.notation.specs.declared.value.TableText.{TableText}

-- a mask, made or refused, of the bits written; nothing if a range is written
abbrev pub WritesMask : ClassText → Option (Result Mask ClassFault) → Type 0
WritesMask (class.Mask bits) None = ⊥
WritesMask (class.Mask bits) (Some r) = MakesMask bits r
WritesMask (class.Range first last) made = made ≡ None

-- a range, made or refused, of the two kinds written; nothing if a mask is written
abbrev pub WritesRange : ClassText → Option (Result Range ClassFault) → Type 0
WritesRange (class.Range first last) None = ⊥
WritesRange (class.Range first last) (Some r) = MakesRange first last r
WritesRange (class.Mask bits) made = made ≡ None

-- `writes` says what class a text writes, in one of the two ways
module _ {C : Type 0} (writes : ClassText → Option (Result C ClassFault) → Type 0) where
  abbrev pub StepWritten : StepText → Step C → Type 0
  StepWritten text.Empty step.Empty = Unit {0}
  StepWritten (text.Node class inside marks) (step.Node c i m) = writes class (Some (Ok c)) × (i ≡ inside) × (m ≡ marks)
  StepWritten text.Empty (step.Node c i m) = ⊥
  StepWritten (text.Node class inside marks) step.Empty = ⊥

  pub record RuleWritten (t : RuleText) (r : Rule C) : Type 0 where
    pub from : r.from ≡ t.from
    pub to : r.to ≡ t.to
    pub step : StepWritten t.step r.step

  -- a rule for each text, in order
  pub data RulesWritten : List RuleText → List (Rule C) → Type 0 where
    none : RulesWritten [] []
    more : {ts : List RuleText} {rs : List (Rule C)} → RulesWritten ts rs → (t : RuleText) (r : Rule C) → RuleWritten t r → RulesWritten (ts ++ t ∷ []) (rs ++ r ∷ [])

  pub record TableWritten (t : TableText) (T : Tab C) : Type 0 where
    pub starts : T.starts ≡ t.starts
    pub finals : T.finals ≡ t.finals
    pub rules : RulesWritten t.rules.items T.rules
