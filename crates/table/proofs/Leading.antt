-- The states from which node rules lead on.
use Rattle.std.proofs.Common.{◌≡◌, ℕ, Bool, true, false, eqb, ◌↔◌}
use Rattle.std.proofs.lemmas.Bool.{both_ways, eq-eqb, eqb-true}
use Rattle.table.specs.declared.rule.Rule.{Rule}
use Rattle.table.specs.Class.{Kind}
use Rattle.table.specs.Table.{Tab, At}
use Rattle.table.specs.Reading.{Takes}
use Rattle.table.specs.Counting.{Sets, takes_step}
use Rattle.table.proofs.Firsts.{at_from, taken, takes_here}

module _ {C : Type 0} (kinds : C → ℕ → Bool) (T : Tab C) (k : ℕ) (i a : ℕ → Bool) where
  -- rule r leads on from q
  abbrev pub LeadsBy : ℕ → ℕ → Type 0
  LeadsBy r q = (s t : ℕ) × (Takes kinds T r q k s t) × (i s ≡ true) × (a t ≡ true)

  abbrev of_some : (ℕ → Bool) → Sets
  of_some f = record { some = f; many = f }

  pub leads_taken : (n : ℕ) (x : Rule C) → Kind k → At T.rules n x → takes_step kinds k i a x.to x.step ≡ true
      → (q : ℕ) → (eqb x.from q ≡ true) ↔ LeadsBy n q
  leads_taken n x small at e q = (
    λ b. taken kinds T (of_some i) (of_some i) (of_some a) k n q x.to x.step small (at_from kinds T (of_some i) (of_some i) (of_some a) n q x at (eqb-true _ _ b)) e,
    λ l. eq-eqb _ _ (takes_here kinds T (of_some i) (of_some i) (of_some a) k n q x at l).0,
  )

  pub leads_passed : (n : ℕ) (x : Rule C) → At T.rules n x → takes_step kinds k i a x.to x.step ≡ false → (q : ℕ) → LeadsBy n q → ⊥
  leads_passed n x at e q l = both_ways _ e (takes_here kinds T (of_some i) (of_some i) (of_some a) k n q x at l).1
