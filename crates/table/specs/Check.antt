-- The check of a table as a form or as a pattern, and the state count.
use Rattle.std.specs.Prelude.{◌≡◌, ℕ, ◌<◌, ◌≤◌, Bool, true, false, ◌⊎◌, length, Result, MatchResult}
use Rattle.table.specs.declared.rule.Rule.{Rule}
use Rattle.table.specs.declared.rule.Step.{Step}
use Rattle.table.specs.declared.rule.Step.TheVariants.{Empty, Node}
use Rattle.table.specs.declared.fault.Role.{Role}
use Rattle.table.specs.declared.fault.Role.TheVariants.{Form, Pattern}
use Rattle.table.specs.declared.fault.Cause.{Cause}
use Rattle.table.specs.declared.fault.Cause.TheVariants.{Bounds, EmptyRule, ShortBuffer, Double}
use Rattle.table.specs.declared.fault.Fault.{Fault}
use Rattle.table.specs.Limits.{max_rules, sets_place, form_states, pattern_states}
use Rattle.table.specs.Sets.{Bit, Extent}
use Rattle.table.specs.Table.{Tab, At}
use Rattle.table.specs.Fault.{refusal}

-- the states of a table in this role are below
abbrev pub limit : Role → ℕ
limit Form = form_states
limit Pattern = pattern_states

-- an empty step, which a form may not have
abbrev pub is_misplaced : {C : Type 0} → Role → Step C → Bool
is_misplaced Form Empty = true
is_misplaced Form (Node c s m) = false
is_misplaced Pattern x = false

abbrev pub Misplaced : {C : Type 0} → Role → Step C → Type 0
Misplaced role x = is_misplaced role x ≡ true

-- the step reads a node's inside from state q
abbrev pub Enters : {C : Type 0} → Step C → ℕ → Type 0
Enters Empty q = ⊥
Enters (Node c s m) q = q ≡ s

-- the rule names state q
abbrev pub Names : {C : Type 0} → Rule C → ℕ → Type 0
Names x q = (q ≡ x.from) ⊎ (q ≡ x.to) ⊎ Enters x.step q

-- n is the highest number for which P holds
pub record Highest (P : ℕ → Type 0) (n : ℕ) : Type 0 where
  pub is : P n
  pub most : (q : ℕ) → P q → q ≤ n

pub record SoundRule {C : Type 0} (role : Role) (x : Rule C) : Type 0 where
  pub placed : Misplaced role x.step → ⊥
  pub below : (q : ℕ) → Names x q → q < limit role

-- why a rule is refused: an empty rule in a form, or else a state beyond the limit
abbrev pub FaultyRule : {C : Type 0} → Role → Rule C → Cause → Type 0
FaultyRule role x EmptyRule = Misplaced role x.step
FaultyRule role x Bounds = (Misplaced role x.step → ⊥) × ((q : ℕ) × (Names x q) × (limit role ≤ q))
FaultyRule role x ShortBuffer = ⊥
FaultyRule role x Double = ⊥

-- a start or final state
abbrev pub Ends : {C : Type 0} → Tab C → ℕ → Type 0
Ends T q = Bit T.starts q ⊎ Bit T.finals q

-- a table that passes: few rules, no state beyond the limit, and no empty rule in a form
pub record SoundTable {C : Type 0} (role : Role) (T : Tab C) : Type 0 where
  pub few : length T.rules ≤ max_rules
  pub ends : (q : ℕ) → Ends T q → q < limit role
  pub rules : (i : ℕ) (x : Rule C) → At T.rules i x → SoundRule role x

-- rule i is the first at fault
pub record FirstFault {C : Type 0} (role : Role) (T : Tab C) (e : Fault) : Type 0 where
  pub few : length T.rules ≤ max_rules
  pub ends : (q : ℕ) → Ends T q → q < limit role
  pub number : ℕ
  pub rule : Rule C
  pub at : At T.rules number rule
  pub before : (i : ℕ) (x : Rule C) → i < number → At T.rules i x → SoundRule role x
  pub cause : Cause
  pub faulty : FaultyRule role rule cause
  pub is : e ≡ refusal role cause number

-- why a table is refused: too many rules, else a start or final state beyond the limit, else the first rule at fault
abbrev pub FaultyTable : {C : Type 0} → Role → Tab C → Fault → Type 0
FaultyTable role T e =
    ((max_rules < length T.rules) × (e ≡ refusal role Bounds max_rules))
    ⊎ ((length T.rules ≤ max_rules) × ((q : ℕ) × (Ends T q) × (limit role ≤ q)) × (e ≡ refusal role Bounds sets_place))
    ⊎ FirstFault role T e

-- what the check answers
abbrev pub Checks : {C : Type 0} → Role → Tab C → Result (Unit {0}) Fault → Type 0
Checks role T r = MatchResult r (λ _. SoundTable role T) (λ e. FaultyTable role T e)

-- what the check of one rule answers
abbrev pub ChecksRule : {C : Type 0} → Role → Rule C → Result (Unit {0}) Cause → Type 0
ChecksRule role x r = MatchResult r (λ _. SoundRule role x) (λ c. FaultyRule role x c)

-- every table has one outcome
pub record OneCheck {C : Type 0} (T : Tab C) : Type 0 where
  pub some : (role : Role) → (r : Result (Unit {0}) Fault) × Checks role T r
  pub only : (role : Role) (r s : Result (Unit {0}) Fault) → Checks role T r → Checks role T s → r ≡ s

-- the table names state q as a start state, as a final state or in a rule
abbrev pub Named : {C : Type 0} → Tab C → ℕ → Type 0
Named {C} T q = Ends T q ⊎ ((i : ℕ) × (x : Rule C) × (At T.rules i x) × (Names x q))

-- one above the highest state named, 0 if none is
abbrev pub StateCount : {C : Type 0} → Tab C → ℕ → Type 0
StateCount T n = Extent (Named T) n
