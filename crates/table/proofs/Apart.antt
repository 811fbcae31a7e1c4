-- Readings are told apart by their steps.
use Rattle.std.proofs.Common.{◌≡◌, ℕ, arith}
use Rattle.table.specs.Reading.{Reading, stop, skip, take}
use Rattle.table.specs.Counting.{First, ends, slips, enters}

abbrev pub first : Reading → First
first stop = ends
first (skip r ρ) = slips r
first (take r ρ σ) = enters r

pub ends_slips : (r : ℕ) → ends ≡ slips r → ⊥
ends_slips r e = let z : ◌≡◌ {A = ℕ} 0 1 = cc in omega arith

pub slips_ends : (r : ℕ) → slips r ≡ ends → ⊥
slips_ends r e = let z : ◌≡◌ {A = ℕ} 0 1 = cc in omega arith

pub slips_enters : (r s : ℕ) → slips r ≡ enters s → ⊥
slips_enters r s e = let z : ◌≡◌ {A = ℕ} 0 1 = cc in omega arith

pub enters_slips : (r s : ℕ) → enters r ≡ slips s → ⊥
enters_slips r s e = let z : ◌≡◌ {A = ℕ} 0 1 = cc in omega arith

pub slips_rule : (r s : ℕ) → slips r ≡ slips s → r ≡ s
slips_rule r s e = cc

pub enters_rule : (r s : ℕ) → enters r ≡ enters s → r ≡ s
enters_rule r s e = cc

pub skip_rest : {r s : ℕ} {ρ σ : Reading} → skip r ρ ≡ skip s σ → ρ ≡ σ
skip_rest e = cc

pub take_rule : {r s : ℕ} {ρ σ ρ' σ' : Reading} → take r ρ σ ≡ take s ρ' σ' → r ≡ s
take_rule e = cc

pub take_inside : {r s : ℕ} {ρ σ ρ' σ' : Reading} → take r ρ σ ≡ take s ρ' σ' → ρ ≡ ρ'
take_inside e = cc

pub take_after : {r s : ℕ} {ρ σ ρ' σ' : Reading} → take r ρ σ ≡ take s ρ' σ' → σ ≡ σ'
take_after e = cc
