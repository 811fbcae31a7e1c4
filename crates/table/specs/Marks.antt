-- The nodes that a reading marks, and what `marks` answers.
use Rattle.std.specs.Prelude.{◌≡◌, ℕ, zero, suc, ◌+◌, Bool, true, false, List, [], ◌∷◌, ◌++◌, Some, None, Option, Result, MatchResult, slice_index}
use Rattle.record.specs.declared.run.Node.{Node}
use Rattle.record.specs.Run.{run_at, Spans}
use Rattle.table.specs.declared.rule.Rule.{Rule}
use Rattle.table.specs.declared.rule.Step.{Step}
use Rattle.table.specs.declared.rule.Step.TheVariants.{Empty, Node as NodeStep}
use Rattle.table.specs.declared.fault.Role.TheVariants.{Pattern}
use Rattle.table.specs.declared.fault.Fault.{Fault}
use Rattle.table.specs.Sets.{bit}
use Rattle.table.specs.Table.{Tab}
use Rattle.table.specs.Reading.{Reading, stop, skip, take, Single, Counts}
use Rattle.table.specs.Scratch.{number_at}
use Rattle.table.specs.Calls.{Admitted, Refused}

-- a step gives mark m
abbrev pub gives : {C : Type 0} → Step C → ℕ → Bool
gives Empty m = false
gives (NodeStep c s b) m = bit b m

-- rule r carries mark m
abbrev pub carries : {C : Type 0} → List (Rule C) → ℕ → ℕ → Bool
carries [] r m = false
carries (x ∷ xs) zero m = gives x.step m
carries (x ∷ xs) (suc r) m = carries xs r m

abbrev pub put : {L : Type 0} → Bool → L → List L → List L
put true l xs = l ∷ xs
put false l xs = xs

-- the places of the nodes to which a reading of the run at p gives mark m, in record order: a node, then its inside, then what follows
abbrev pub marked : {C : Type 0} → List (Rule C) → ℕ → (ℕ → Option Node) → ℕ → Reading → List ℕ
marked rules m seen p stop = []
marked rules m seen p (skip r ρ) = marked rules m seen p ρ
marked rules m seen p (take r ρ σ) =
    elim (seen p) [ None ↦ [] | Some n ↦ put (carries rules r m) p (marked rules m seen n.inside ρ ++ marked rules m seen n.after σ) ]

-- of the s places above b those that pass a test, from the highest down
abbrev pub picked : (ℕ → Bool) → ℕ → ℕ → List ℕ
picked test b zero = []
picked test b (suc s) = put (test (b + suc s)) (b + suc s) (picked test b s)

-- mark m stands in the second number of a place
abbrev pub noted : List ℕ → ℕ → ℕ → Bool
noted xs m p = bit (slice_index xs (number_at p 1)) m

-- for each mark, the places that have it are those of the nodes to which the one reading gives it
abbrev pub Listed : {C : Type 0} → (C → ℕ → Bool) → Tab C → (ℕ → Option Node) → ℕ → List ℕ → Type 0
Listed kinds T seen top xs =
    (m : ℕ) (one : Single kinds T (run_at seen top)) → picked (noted xs m) 0 top ≡ marked T.rules m seen top one.whole.reading

-- the count; and after the answer 1 the marked nodes of a run in which no node place is named twice
abbrev pub MarksAnswer : {C : Type 0} → (C → ℕ → Bool) → Tab C → (ℕ → Option Node) → ℕ → ℕ → List ℕ → Result ℕ Fault → Type 0
MarksAnswer kinds T seen top len xs r =
    MatchResult r
    (λ n. (Admitted Pattern T top len) × (Counts kinds T (run_at seen top) n) × (n ≡ 1 → Spans seen 0 top top → Listed kinds T seen top xs))
    (λ e. Refused Pattern T top len e)
