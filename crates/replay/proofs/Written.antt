-- Rules written so far, and one more.
use Rattle.std.proofs.Common.{◌≡◌, ℕ, ◌+◌, ◌<◌, List, [], ◌∷◌, ◌++◌, length, get_or, take, Option, Result, sym, ap, ◌∙◌, subst, subst₂}
use Rattle.std.proofs.lemmas.List.{take_more}
use Rattle.table.specs.ClassFault.{ClassFault}
use Rattle.table.specs.declared.rule.Rule.{Rule}
use Rattle.notation.specs.declared.value.ClassText.{ClassText}
use Rattle.notation.specs.declared.value.RuleText.{RuleText}
use Rattle.notation.specs.declared.value.TableText.{TableText}
use Rattle.table.specs.Table.{Tab}
use Rattle.replay.specs.Written.{RuleWritten, RulesWritten, TableWritten}
use Rattle.replay.specs.Written.RulesWritten.{none, more}

pub rules_none : {C : Type 0} (writes : ClassText → Option (Result C ClassFault) → Type 0) (ts : List RuleText) (rs : List (Rule C)) → rs ≡ [] → RulesWritten writes (take 0 ts) rs
rules_none writes ts rs p = subst (λ b. RulesWritten writes (take 0 ts) b) (sym p) none

-- `seen` is the list as the loop reads it
pub rules_more : {C : Type 0} (writes : ClassText → Option (Result C ClassFault) → Type 0) (seen ts : List RuleText) (rs rs' : List (Rule C)) (i : ℕ) (d : RuleText) (r : Rule C)
    → seen ≡ ts → i < length seen → rs' ≡ rs ++ r ∷ [] → RuleWritten writes (get_or seen i d) r
    → RulesWritten writes (take i ts) rs → RulesWritten writes (take (i + 1) ts) rs'
rules_more writes seen ts rs rs' i d r e h p w so =
    subst (λ xs. RulesWritten writes (take i xs) rs → RulesWritten writes (take (i + 1) xs) rs') e
    (λ before. subst₂ (λ a b. RulesWritten writes a b) (sym (take_more seen i d h)) (sym p) (more before (get_or seen i d) r w)) so

-- a table that was made of its text and of rules that are written there
pub table_written : {C : Type 0} (writes : ClassText → Option (Result C ClassFault) → Type 0) (t : TableText) (T : Tab C) (lent rules : List (Rule C))
    → T ≡ record { starts = t.starts; finals = t.finals; rules = lent } → lent ≡ rules → RulesWritten writes t.rules.items rules → TableWritten writes t T
table_written writes t T lent rules e p w =
    record {
      starts = ap (λ (x : Tab _). x.starts) e;
      finals = ap (λ (x : Tab _). x.finals) e;
      rules = subst (λ rs. RulesWritten writes t.rules.items rs) (sym (ap (λ (x : Tab _). x.rules) e ∙ p)) w;
    }
