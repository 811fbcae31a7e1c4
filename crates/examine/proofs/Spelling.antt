-- The readings that a good line spells are readings of its run, and lines that are appended change none of them.
use Rattle.std.proofs.Common.{◌≡◌, ℕ, ◌<◌, Bool, Some, None, Option, sym, refl, ap, ◌∙◌, subst, arith}
use Rattle.record.specs.declared.run.Node.{Node as Seen}
use Rattle.record.specs.Run.{Run, Lower, run_at}
use Rattle.record.proofs.Places.{run_none, run_some}
use Rattle.table.specs.Table.{Tab}
use Rattle.table.specs.Reading.{Reading, stop, take, Takes, Reads}
use Rattle.examine.specs.declared.line.Line.{Line}
use Rattle.examine.specs.declared.line.LineStep.{LineStep}
use Rattle.examine.specs.declared.line.LineStep.TheVariants.{Stop, First, Second, Both, Node}
use Rattle.examine.specs.Lines.{Names, NodeLine, Follows, Good, Spells}
use Rattle.examine.specs.Lines.Spells.{stops, first, second, both, takes}

-- places that show the same begin the same run
run_same : (seen : ℕ → Option Seen) → Lower seen → (p q : ℕ) → seen p ≡ seen q → run_at seen p ≡ run_at seen q
run_same seen lower p q e = go (seen q) refl
  where
    go : (o : Option Seen) → seen q ≡ o → run_at seen p ≡ run_at seen q
    go None x = run_none seen lower p (e ∙ x) ∙ sym (run_none seen lower q x)
    go (Some n) x = run_some seen lower p n (e ∙ x) ∙ sym (run_some seen lower q n x)

same_node : {m n : Seen} {o : Option Seen} → o ≡ Some m → o ≡ Some n → m ≡ n
same_node e d = cc

module _ {C : Type 0} (kinds : C → ℕ → Bool) (F P : Tab C) (lines : ℕ → Line) where
  -- a good line at a step
  stepped : (j : ℕ) (s : LineStep) → (lines j).step ≡ s → Good kinds F P lines j → Follows kinds F P lines j (lines j) s
  stepped j s e g = subst (Follows kinds F P lines j (lines j)) e g

  -- a good line of a node, at the node that it shows
  noded : (j : ℕ) (n : Seen) {r₀ r₁ r₂ : ℕ} → (lines j).run ≡ Some n → NodeLine kinds F P lines j (lines j) r₀ r₁ r₂
      → (Names j n.inside) × (Names j n.after)
      × (Takes kinds F r₀ (lines j).form n.kind (lines n.inside).form (lines n.after).form)
      × (Takes kinds P r₁ (lines j).first n.kind (lines n.inside).first (lines n.after).first)
      × (Takes kinds P r₂ (lines j).second n.kind (lines n.inside).second (lines n.after).second)
  noded j n {r₀} {r₁} {r₂} e g =
      subst (λ (m : Seen). (Names j m.inside) × (Names j m.after)
      × (Takes kinds F r₀ (lines j).form m.kind (lines m.inside).form (lines m.after).form)
      × (Takes kinds P r₁ (lines j).first m.kind (lines m.inside).first (lines m.after).first)
      × (Takes kinds P r₂ (lines j).second m.kind (lines m.inside).second (lines m.after).second))
      (same_node g.run e) (g.inside, g.after, g.form, g.first, g.second)

  module _ (n : ℕ) (good : (j : ℕ) → 0 < j → j < n → Good kinds F P lines j) where
    -- lines that agree below n spell the same below n
    pub spells_lasts : (lines' : ℕ → Line) → ((j : ℕ) → j < n → lines' j ≡ lines j) → {j : ℕ} {ρ ρ₁ ρ₂ : Reading} → 0 < j → j < n → Spells lines j ρ ρ₁ ρ₂ → Spells lines' j ρ ρ₁ ρ₂
    spells_lasts lines' same {j} z l (stops e) = stops (ap (λ (m : Line). m.step) (same j l) ∙ e)
    spells_lasts lines' same {j} z l (first {r = r} {i = i} e s) =
        let g = stepped j (First r i) e (good j z l) in
        first (ap (λ (m : Line). m.step) (same j l) ∙ e) (spells_lasts lines' same g.0.0 (omega arith) s)
    spells_lasts lines' same {j} z l (second {r = r} {i = i} e s) =
        let g = stepped j (Second r i) e (good j z l) in
        second (ap (λ (m : Line). m.step) (same j l) ∙ e) (spells_lasts lines' same g.0.0 (omega arith) s)
    spells_lasts lines' same {j} z l (both {r₁ = r₁} {r₂ = r₂} {i = i} e s) =
        let g = stepped j (Both r₁ r₂ i) e (good j z l) in
        both (ap (λ (m : Line). m.step) (same j l) ∙ e) (spells_lasts lines' same g.0.0 (omega arith) s)
    spells_lasts lines' same {j} z l (takes {r₀ = r₀} {r₁ = r₁} {r₂ = r₂} {n = m} e d s t) =
        let g = noded j m d (stepped j (Node r₀ r₁ r₂) e (good j z l)) in
        takes (ap (λ (m : Line). m.step) (same j l) ∙ e) (ap (λ (m : Line). m.run) (same j l) ∙ d)
        (spells_lasts lines' same g.0.0 (omega arith) s) (spells_lasts lines' same g.1.0 (omega arith) t)

    module _ (seen : ℕ → Option Seen) (lower : Lower seen) (sees : (j : ℕ) → 0 < j → j < n → seen j ≡ (lines j).run) where
      abbrev pub Three : ℕ → Reading → Reading → Reading → Run → Type 0
      Three j ρ ρ₁ ρ₂ w = (Reads kinds F (lines j).form w ρ) × (Reads kinds P (lines j).first w ρ₁) × (Reads kinds P (lines j).second w ρ₂)

      -- the run at the line led to
      led : (j i : ℕ) → 0 < j → j < n → 0 < i → i < n → (lines i).run ≡ (lines j).run → run_at seen i ≡ run_at seen j
      led j i z l y k e = run_same seen lower i j (sees i y k ∙ (e ∙ sym (sees j z l)))

      pub spells_read : {j : ℕ} {ρ ρ₁ ρ₂ : Reading} → 0 < j → j < n → Spells lines j ρ ρ₁ ρ₂ → Three j ρ ρ₁ ρ₂ (run_at seen j)
      spells_read {j} z l (stops e) =
          let g = stepped j Stop e (good j z l) in
          subst (Three j stop stop stop) (sym (run_none seen lower j (sees j z l ∙ g.0))) (g.1, g.2, g.3)
      spells_read {j} z l (first {r = r} {i = i} {ρ = ρ} {ρ₁ = ρ₁} {ρ₂ = ρ₂} e s) =
          let g = stepped j (First r i) e (good j z l) in
          let b : i < n = omega arith in
          let h = subst (Three i ρ ρ₁ ρ₂) (led j i z l g.0.0 b g.1.1) (spells_read g.0.0 b s) in (
            subst (λ q. Reads kinds F q (run_at seen j) ρ) g.1.0 h.0,
            ((lines i).first, g.2, h.1),
            subst (λ q. Reads kinds P q (run_at seen j) ρ₂) g.3 h.2,
          )
      spells_read {j} z l (second {r = r} {i = i} {ρ = ρ} {ρ₁ = ρ₁} {ρ₂ = ρ₂} e s) =
          let g = stepped j (Second r i) e (good j z l) in
          let b : i < n = omega arith in
          let h = subst (Three i ρ ρ₁ ρ₂) (led j i z l g.0.0 b g.1.1) (spells_read g.0.0 b s) in (
            subst (λ q. Reads kinds F q (run_at seen j) ρ) g.1.0 h.0,
            subst (λ q. Reads kinds P q (run_at seen j) ρ₁) g.2 h.1,
            ((lines i).second, g.3, h.2),
          )
      spells_read {j} z l (both {r₁ = r₁} {r₂ = r₂} {i = i} {ρ = ρ} {ρ₁ = ρ₁} {ρ₂ = ρ₂} e s) =
          let g = stepped j (Both r₁ r₂ i) e (good j z l) in
          let b : i < n = omega arith in
          let h = subst (Three i ρ ρ₁ ρ₂) (led j i z l g.0.0 b g.1.1) (spells_read g.0.0 b s) in (
            subst (λ q. Reads kinds F q (run_at seen j) ρ) g.1.0 h.0,
            ((lines i).first, g.2, h.1),
            ((lines i).second, g.3, h.2),
          )
      spells_read {j} z l (takes {r₀ = r₀} {r₁ = r₁} {r₂ = r₂} {n = m} {ρ = ρ} {ρ₁ = ρ₁} {ρ₂ = ρ₂} {σ = σ} {σ₁ = σ₁} {σ₂ = σ₂} e d s t) =
          let g = noded j m d (stepped j (Node r₀ r₁ r₂) e (good j z l)) in
          let h = spells_read g.0.0 (omega arith) s in
          let k = spells_read g.1.0 (omega arith) t in
          subst (Three j (take r₀ ρ σ) (take r₁ ρ₁ σ₁) (take r₂ ρ₂ σ₂)) (sym (run_some seen lower j m (sees j z l ∙ d))) (
            ((lines m.inside).form, (lines m.after).form, g.2, h.0, k.0),
            ((lines m.inside).first, (lines m.after).first, g.3, h.1, k.1),
            ((lines m.inside).second, (lines m.after).second, g.4, h.2, k.2),
          )

-- a line that follows lower lines follows lines that agree with them there
module _ {C : Type 0} (kinds : C → ℕ → Bool) (F P : Tab C) (lines lines' : ℕ → Line) (j : ℕ) (same : (i : ℕ) → i < j → lines' i ≡ lines i) where
  pub follows_lasts : (l : Line) (s : LineStep) → Follows kinds F P lines j l s → Follows kinds F P lines' j l s
  follows_lasts l Stop g = g
  follows_lasts l (First r i) g = rw (same i g.0.1) g
  follows_lasts l (Second r i) g = rw (same i g.0.1) g
  follows_lasts l (Both r₁ r₂ i) g = rw (same i g.0.1) g
  follows_lasts l (Node r₀ r₁ r₂) g =
      let a = same g.node.inside g.inside.1 in
      let b = same g.node.after g.after.1 in
      record {
        node = g.node;
        run = g.run;
        inside = g.inside;
        after = g.after;
        form = rw (a, b) g.form;
        first = rw (a, b) g.first;
        second = rw (a, b) g.second;
      }
