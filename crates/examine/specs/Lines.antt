-- The lines of a sheet: what makes a line good, and which readings it spells.
use Rattle.std.specs.Prelude.{◌≡◌, ℕ, ◌<◌, Bool, List, Some, None, slice_index_or}
use Rattle.record.specs.declared.run.Node.{Node as Seen}
use Rattle.table.specs.Sets.{Bit}
use Rattle.table.specs.Table.{Tab}
use Rattle.table.specs.Reading.{Reading, stop, skip, take, Skips, Takes}
use Rattle.examine.specs.declared.line.Line.{Line}
use Rattle.examine.specs.declared.line.LineStep.{LineStep}
use Rattle.examine.specs.declared.line.LineStep.TheVariants.{Stop, First, Second, Both, Node}

abbrev pub blank : Line
blank = record { form = 0; first = 0; second = 0; run = None; step = Stop }

-- line j of a sheet
abbrev pub line_at : List Line → ℕ → Line
line_at sheet j = slice_index_or sheet j blank

-- line j names line i, which is lower
abbrev pub Names : ℕ → ℕ → Type 0
Names j i = (0 < i) × (i < j)

-- the line led to has the same form state and the same run
abbrev pub Led : Line → Line → Type 0
Led l m = (m.form ≡ l.form) × (m.run ≡ l.run)

-- a node's line: three rules from its states take the kind, the inside line has their inside states and the after line their to states
pub record NodeLine {C : Type 0} (kinds : C → ℕ → Bool) (F P : Tab C) (lines : ℕ → Line) (j : ℕ) (l : Line) (r₀ r₁ r₂ : ℕ) : Type 0 where
  pub node : Seen
  pub run : l.run ≡ Some node
  pub inside : Names j node.inside
  pub after : Names j node.after
  pub form : Takes kinds F r₀ l.form node.kind (lines node.inside).form (lines node.after).form
  pub first : Takes kinds P r₁ l.first node.kind (lines node.inside).first (lines node.after).first
  pub second : Takes kinds P r₂ l.second node.kind (lines node.inside).second (lines node.after).second

module _ {C : Type 0} (kinds : C → ℕ → Bool) (F P : Tab C) (lines : ℕ → Line) where
  -- line j goes on as its step says
  abbrev pub Follows : ℕ → Line → LineStep → Type 0
  Follows j l Stop = (l.run ≡ None) × Bit F.finals l.form × Bit P.finals l.first × Bit P.finals l.second
  Follows j l (First r i) = Names j i × Led l (lines i) × Skips P r l.first (lines i).first × ((lines i).second ≡ l.second)
  Follows j l (Second r i) = Names j i × Led l (lines i) × ((lines i).first ≡ l.first) × Skips P r l.second (lines i).second
  Follows j l (Both r₁ r₂ i) = Names j i × Led l (lines i) × Skips P r₁ l.first (lines i).first × Skips P r₂ l.second (lines i).second
  Follows j l (Node r₀ r₁ r₂) = NodeLine kinds F P lines j l r₀ r₁ r₂

  abbrev pub Good : ℕ → Type 0
  Good j = Follows j (lines j) (lines j).step

-- line j spells a reading by the form and two by the pattern
pub data Spells (lines : ℕ → Line) : ℕ → Reading → Reading → Reading → Type 0 where
  stops : {j : ℕ} → (lines j).step ≡ Stop → Spells lines j stop stop stop
  first : {j r i : ℕ} {ρ ρ₁ ρ₂ : Reading} → (lines j).step ≡ First r i → Spells lines i ρ ρ₁ ρ₂ → Spells lines j ρ (skip r ρ₁) ρ₂
  second : {j r i : ℕ} {ρ ρ₁ ρ₂ : Reading} → (lines j).step ≡ Second r i → Spells lines i ρ ρ₁ ρ₂ → Spells lines j ρ ρ₁ (skip r ρ₂)
  both : {j r₁ r₂ i : ℕ} {ρ ρ₁ ρ₂ : Reading} → (lines j).step ≡ Both r₁ r₂ i → Spells lines i ρ ρ₁ ρ₂ → Spells lines j ρ (skip r₁ ρ₁) (skip r₂ ρ₂)
  takes : {j r₀ r₁ r₂ : ℕ} {n : Seen} {ρ ρ₁ ρ₂ σ σ₁ σ₂ : Reading} → (lines j).step ≡ Node r₀ r₁ r₂ → (lines j).run ≡ Some n
      → Spells lines n.inside ρ ρ₁ ρ₂ → Spells lines n.after σ σ₁ σ₂ → Spells lines j (take r₀ ρ σ) (take r₁ ρ₁ σ₁) (take r₂ ρ₂ σ₂)
