-- Rules as they are written.
use Rattle.std.specs.Prelude.{◌≡◌}
use Rattle.notation.specs.declared.value.Writing.{Writing}
use Rattle.notation.specs.declared.value.Writing.TheVariants as writing
use Rattle.notation.specs.declared.value.ClassText.{ClassText}
use Rattle.notation.specs.declared.value.ClassText.TheVariants as class
use Rattle.notation.specs.declared.value.StepText.{StepText}
use Rattle.notation.specs.declared.value.StepText.TheVariants as step
use Rattle.notation.specs.declared.value.RuleText.{RuleText}

-- the way in which a class is written
abbrev pub writing_of : ClassText → Writing
writing_of (class.Mask m) = writing.Mask
writing_of (class.Range f l) = writing.Range

abbrev pub WrittenAs : Writing → ClassText → Type 0
WrittenAs w c = writing_of c ≡ w

abbrev pub IsMask : ClassText → Type 0
IsMask c = WrittenAs writing.Mask c

abbrev pub IsRange : ClassText → Type 0
IsRange c = WrittenAs writing.Range c

-- the class of a rule, if it has one, is written in this way
abbrev pub StepOf : Writing → StepText → Type 0
StepOf w step.Empty = Unit {0}
StepOf w (step.Node c i m) = WrittenAs w c

abbrev pub RuleOf : Writing → RuleText → Type 0
RuleOf w r = StepOf w r.step
