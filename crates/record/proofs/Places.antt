-- The run at a place, without the fuel.
use Rattle.std.proofs.Common.{◌≡◌, ℕ, zero, suc, ◌≤◌, Some, None, Option, sym, refl, ap, ◌∙◌, ap₂, arith}
use Rattle.record.specs.declared.run.Node.{Node}
use Rattle.record.specs.Run.{Run, nil, node, Lower, spelled, run_at, Unfolds}

-- one step of the spelling
abbrev turn : (ℕ → Option Node) → ℕ → Option Node → Run
turn seen fuel None = nil
turn seen fuel (Some n) = node n.kind (spelled seen fuel n.inside) (spelled seen fuel n.after)

turned : (seen : ℕ → Option Node) (fuel p : ℕ) (o : Option Node) → seen p ≡ o → spelled seen (suc fuel) p ≡ turn seen fuel o
turned seen fuel p o e = ap (turn seen fuel) e

module _ (seen : ℕ → Option Node) (lower : Lower seen) where
  -- nothing is seen at place 0, so that a spelling there is empty whatever the fuel
  at_zero : (fuel : ℕ) → spelled seen fuel 0 ≡ nil
  at_zero zero = refl
  at_zero (suc fuel) = go (seen 0) refl
    where
      go : (o : Option Node) → seen 0 ≡ o → spelled seen (suc fuel) 0 ≡ nil
      go None e = turned seen fuel 0 None e
      go (Some n) e = let h = lower 0 n e in absurd (omega arith)

  -- fuel that suffices makes no difference
  enough : (m n p : ℕ) → p ≤ m → p ≤ n → spelled seen m p ≡ spelled seen n p
  enough zero n p h g = let z : p ≡ 0 = omega arith in rw z (sym (at_zero n))
  enough (suc m) zero p h g = let z : p ≡ 0 = omega arith in rw z (at_zero (suc m))
  enough (suc m) (suc n) p h g = go (seen p) refl (λ c x y. enough m n c x y)
    where
      go : (o : Option Node) → seen p ≡ o → ((c : ℕ) → c ≤ m → c ≤ n → spelled seen m c ≡ spelled seen n c) → spelled seen (suc m) p ≡ spelled seen (suc n) p
      go None e ih = turned seen m p None e ∙ sym (turned seen n p None e)
      go (Some x) e ih =
          let l = lower p x e in
          turned seen m p (Some x) e ∙ (ap₂ (node x.kind) (ih x.inside (omega arith) (omega arith)) (ih x.after (omega arith) (omega arith)) ∙ sym (turned seen n p (Some x) e))

  pub run_none : (p : ℕ) → seen p ≡ None → run_at seen p ≡ nil
  run_none zero e = refl
  run_none (suc p) e = turned seen p (suc p) None e

  pub run_some : (p : ℕ) (n : Node) → seen p ≡ Some n → run_at seen p ≡ node n.kind (run_at seen n.inside) (run_at seen n.after)
  run_some zero n e = let h = lower 0 n e in absurd (omega arith)
  run_some (suc p) n e =
      let h = lower (suc p) n e in
      turned seen p (suc p) (Some n) e
      ∙ ap₂ (node n.kind) (enough p n.inside n.inside (omega arith) (omega arith)) (enough p n.after n.after (omega arith) (omega arith))

pub unfolds_holds : Unfolds
unfolds_holds = record { at_none = run_none; at_some = run_some }
