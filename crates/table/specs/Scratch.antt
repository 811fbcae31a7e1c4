-- Scratch: three numbers for each place of a run, the states with a reading, those with two that differ, and a third set.
use Rattle.std.specs.Prelude.{◌≡◌, ℕ, zero, suc, ◌+◌, ◌*◌, ◌<◌, ◌≤◌, Bool, true, ◌↔◌, List, Option, Result, MatchResult, slice_index}
use Rattle.record.specs.declared.run.Node.{Node}
use Rattle.record.specs.Run.{Run, run_at}
use Rattle.table.specs.declared.fault.Role.{Role}
use Rattle.table.specs.declared.fault.Cause.TheVariants.{ShortBuffer}
use Rattle.table.specs.declared.fault.Fault.{Fault}
use Rattle.table.specs.Limits.{per_place}
use Rattle.table.specs.Fault.{refusal}
use Rattle.table.specs.Sets.{bit}
use Rattle.table.specs.Table.{Tab}
use Rattle.table.specs.Reading.{Skips}
use Rattle.table.specs.Counting.{Sets, Once, Exact}

-- how much scratch a run needs
abbrev pub needed : ℕ → ℕ
needed top = per_place * (top + 1)

-- where number k of a place stands
abbrev pub number_at : ℕ → ℕ → ℕ
number_at p zero = per_place * p
number_at p (suc k) = per_place * p + suc k

-- the scratch does not suffice
abbrev pub Short : Role → ℕ → ℕ → Fault → Type 0
Short role top len e = (len < needed top) × (e ≡ refusal role ShortBuffer (needed top))

-- what is known once the scratch suffices
pub record Roomy (top len n : ℕ) : Type 0 where
  pub is : n ≡ top
  pub room : needed top ≤ len

abbrev pub Measures : Role → ℕ → ℕ → Result ℕ Fault → Type 0
Measures role top len r = MatchResult r (Roomy top len) (Short role top len)

-- the table has no empty rules
abbrev pub NoSkips : {C : Type 0} → Tab C → Type 0
NoSkips T = (r q t : ℕ) → Skips T r q t → ⊥

-- a set is of the states with a reading
abbrev pub ExactSome : {C : Type 0} → (C → ℕ → Bool) → Tab C → Run → (ℕ → Bool) → Type 0
ExactSome kinds T w f = (q : ℕ) → (f q ≡ true) ↔ Once kinds T q w

-- the first set of each of the first n places is right
abbrev pub Fitted : {C : Type 0} → (C → ℕ → Bool) → Tab C → (ℕ → Option Node) → List ℕ → ℕ → Type 0
Fitted kinds T seen xs n = (p : ℕ) → p < n → ExactSome kinds T (run_at seen p) (bit (slice_index xs (number_at p 0)))

-- the first two sets of a place
abbrev pub sets_at : List ℕ → ℕ → Sets
sets_at xs p = record { some = bit (slice_index xs (number_at p 0)); many = bit (slice_index xs (number_at p 1)) }

-- the first two sets of each of the first n places are right
abbrev pub Filled : {C : Type 0} → (C → ℕ → Bool) → Tab C → (ℕ → Option Node) → List ℕ → ℕ → Type 0
Filled kinds T seen xs n = (p : ℕ) → p < n → Exact kinds T (run_at seen p) (sets_at xs p)
