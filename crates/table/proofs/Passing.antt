-- Places are listed from the top down; what was listed stays.
use Rattle.std.proofs.Common.{◌≡◌, ℕ, ◌+◌, ◌-◌, ◌*◌, ◌<◌, ◌≤◌, Bool, true, ◌↔◌, List, length, get_or, set, Some, Option, sym, refl, ap, ◌∙◌, subst, subst₂, inl, inr, arith}
use Rattle.std.proofs.lemmas.List.{get_or-set_same, get_or-set_other, length-set}
use Rattle.std.proofs.lemmas.Bool.{cases_eq}
use Rattle.record.specs.declared.run.Node.{Node}
use Rattle.record.specs.Run.{Lower, run_at, Spans}
use Rattle.table.specs.Limits.{per_place}
use Rattle.table.specs.Sets.{bit, Bit}
use Rattle.table.specs.Table.{Tab}
use Rattle.table.specs.Scratch.{ExactSome, Filled}
use Rattle.table.specs.Marks.{carries, Listed}
use Rattle.table.specs.Listing.{Alive, Uses, Passes}
use Rattle.table.proofs.Spanning.{NamesPlace, once, apart}
use Rattle.table.proofs.Marking.{Lit, listed}

-- three numbers set: two third sets and a second
module _ (xs : List ℕ) (i a p I A M : ℕ) (ri : per_place * i + 2 < length xs) (ra : per_place * a + 2 < length xs) (rp : per_place * p + 2 < length xs) where
  abbrev one : List ℕ
  one = set xs (per_place * i + 2) I

  abbrev two : List ℕ
  two = set one (per_place * a + 2) A

  abbrev three : List ℕ
  three = set two (per_place * p + 1) M

  -- a number that none of the three is
  other : (j : ℕ) → (j ≡ per_place * i + 2 → ⊥) → (j ≡ per_place * a + 2 → ⊥) → (j ≡ per_place * p + 1 → ⊥) → get_or three j 0 ≡ get_or xs j 0
  other j x y z =
      get_or-set_other two (per_place * p + 1) j M 0 z ∙ (get_or-set_other one (per_place * a + 2) j A 0 y ∙ get_or-set_other xs (per_place * i + 2) j I 0 x)

  some_kept : (u : ℕ) → get_or three (per_place * u) 0 ≡ get_or xs (per_place * u) 0
  some_kept u = other (per_place * u) (λ e. omega arith) (λ e. omega arith) (λ e. omega arith)

  marks_kept : (u : ℕ) → (u ≡ p → ⊥) → get_or three (per_place * u + 1) 0 ≡ get_or xs (per_place * u + 1) 0
  marks_kept u d = other (per_place * u + 1) (λ e. omega arith) (λ e. omega arith) (λ e. d (omega arith))

  enter_kept : (u : ℕ) → (u ≡ i → ⊥) → (u ≡ a → ⊥) → get_or three (per_place * u + 2) 0 ≡ get_or xs (per_place * u + 2) 0
  enter_kept u d f = other (per_place * u + 2) (λ e. d (omega arith)) (λ e. f (omega arith)) (λ e. omega arith)

  marks_set : get_or three (per_place * p + 1) 0 ≡ M
  marks_set = get_or-set_same two (per_place * p + 1) M 0 (omega (arith, length-set one (per_place * a + 2) A, length-set xs (per_place * i + 2) I))

  after_set : get_or three (per_place * a + 2) 0 ≡ A
  after_set =
      get_or-set_other two (per_place * p + 1) (per_place * a + 2) M 0 (λ e. omega arith)
      ∙ get_or-set_same one (per_place * a + 2) A 0 (omega (arith, length-set xs (per_place * i + 2) I))

  inside_set : (i ≡ a → ⊥) → get_or three (per_place * i + 2) 0 ≡ I
  inside_set d =
      get_or-set_other two (per_place * p + 1) (per_place * i + 2) M 0 (λ e. omega arith)
      ∙ (get_or-set_other one (per_place * a + 2) (per_place * i + 2) A 0 (λ e. d (omega arith)) ∙ get_or-set_same xs (per_place * i + 2) I 0 ri)

module _ {C : Type 0} (kinds : C → ℕ → Bool) (T : Tab C) where
  -- sets that are equal are as right
  lit_same : (k : ℕ) (P Q : Type 0) (s e si sa ei ea m s' e' si' sa' ei' ea' m' : ℕ)
      → s ≡ s' → e ≡ e' → si ≡ si' → sa ≡ sa' → (P → ei ≡ ei') → (Q → ea ≡ ea') → m ≡ m'
      → Lit kinds T k P Q s e si sa ei ea m → Lit kinds T k P Q s' e' si' sa' ei' ea' m'
  lit_same k P Q s e si sa ei ea m s' e' si' sa' ei' ea' m' ps pe psi psa pei pea pm l =
      record {
        live = l.live;
        lives = λ q. subst₂ (λ x y. Bit l.live q ↔ Alive T (bit x) (bit y) q) ps pe (l.lives q);
        insides = λ z t. subst (λ w. Bit w t ↔ ((r u : ℕ) × (Uses kinds T k (bit l.live) (bit si') (bit sa') r t u))) (pei z)
            (subst₂ (λ x y. Bit ei t ↔ ((r u : ℕ) × (Uses kinds T k (bit l.live) (bit x) (bit y) r t u))) psi psa (l.insides z t));
        afters = λ z t. subst (λ w. Bit w t ↔ ((r u : ℕ) × (Uses kinds T k (bit l.live) (bit si') (bit sa') r u t))) (pea z)
            (subst₂ (λ x y. Bit ea t ↔ ((r u : ℕ) × (Uses kinds T k (bit l.live) (bit x) (bit y) r u t))) psi psa (l.afters z t));
        noted = λ n. subst (λ w. Bit w n ↔ ((r t u : ℕ) × (Uses kinds T k (bit l.live) (bit si') (bit sa') r t u) × (carries T.rules r n ≡ true))) pm
            (subst₂ (λ x y. Bit m n ↔ ((r t u : ℕ) × (Uses kinds T k (bit l.live) (bit x) (bit y) r t u) × (carries T.rules r n ≡ true))) psi psa (l.noted n));
      }

  -- a node's sets, as the numbers of places hold them
  abbrev pub LitAt : ℕ → Node → List ℕ → Type 0
  LitAt u n xs =
      Lit kinds T n.kind (0 < n.inside) (0 < n.after) (get_or xs (per_place * u) 0) (get_or xs (per_place * u + 2) 0)
      (get_or xs (per_place * n.inside) 0) (get_or xs (per_place * n.after) 0) (get_or xs (per_place * n.inside + 2) 0) (get_or xs (per_place * n.after + 2) 0) (get_or xs (per_place * u + 1) 0)

  -- the places above p are listed
  module _ (seen : ℕ → Option Node) (top : ℕ) where
    pub record LitAbove (p : ℕ) (xs : List ℕ) : Type 0 where
      pub somes : (u : ℕ) → u ≤ top → ExactSome kinds T (run_at seen u) (bit (get_or xs (per_place * u) 0))
      pub start : get_or xs (per_place * top + 2) 0 ≡ T.starts
      pub lit : (u : ℕ) → p < u → u ≤ top → (n : Node) → seen u ≡ Some n → LitAt u n xs

  module _ (seen : ℕ → Option Node) (lower : Lower seen) (top : ℕ) where
    pub lit_none : (xs : List ℕ) → per_place * top + 2 < length xs → Filled kinds T seen xs (top + 1) → LitAbove seen top top (set xs (per_place * top + 2) T.starts)
    lit_none xs room filled =
        record {
          somes = λ u h. subst (λ z. ExactSome kinds T (run_at seen u) (bit z)) (sym (get_or-set_other xs (per_place * top + 2) (per_place * u) T.starts 0 (λ e. omega arith)))
              (filled u (omega arith)).somes;
          start = get_or-set_same xs (per_place * top + 2) T.starts 0 room;
          lit = λ u l h n e. absurd (omega arith);
        }

    pub lit_more : (p : ℕ) (n : Node) (xs ys : List ℕ) → Spans seen 0 top top → 0 < p → p ≤ top → seen p ≡ Some n → per_place * top + 2 < length xs
        → Passes kinds T p n xs ys → LitAbove seen top p xs → LitAbove seen top (p - 1) ys
    lit_more p n xs ys spans up h e room pass inv =
        let i = n.inside in
        let a = n.after in
        let I = pass.used.inside in
        let A = pass.used.after in
        let M = pass.used.marks in
        let l = lower p n e in
        let ri : per_place * i + 2 < length xs = omega arith in
        let ra : per_place * a + 2 < length xs = omega arith in
        let rp : per_place * p + 2 < length xs = omega arith in
        let zs : List ℕ = set (set (set xs (per_place * i + 2) I) (per_place * a + 2) A) (per_place * p + 1) M in
        let sk = some_kept xs i a p I A M ri ra rp in
        let ek = enter_kept xs i a p I A M ri ra rp in
        let mk = marks_kept xs i a p I A M ri ra rp in
        let here : LitAt p n zs =
        lit_same n.kind (0 < i) (0 < a) (get_or xs (per_place * p) 0) (get_or xs (per_place * p + 2) 0) (get_or xs (per_place * i) 0) (get_or xs (per_place * a) 0) I A M
        (get_or zs (per_place * p) 0) (get_or zs (per_place * p + 2) 0) (get_or zs (per_place * i) 0) (get_or zs (per_place * a) 0) (get_or zs (per_place * i + 2) 0) (get_or zs (per_place * a + 2) 0) (get_or zs (per_place * p + 1) 0)
        (sym (sk p)) (sym (ek p (λ z. omega arith) (λ z. omega arith))) (sym (sk i)) (sym (sk a))
        (λ z. sym (inside_set xs i a p I A M ri ra rp (λ w. apart seen lower spans p up (omega arith) n e z w)))
        (λ z. sym (after_set xs i a p I A M ri ra rp)) (sym (marks_set xs i a p I A M ri ra rp))
        (record { live = pass.live; lives = pass.lives; insides = λ z. pass.uses.insides; afters = λ z. pass.uses.afters; noted = pass.uses.marked }) in
        let there : (u : ℕ) → p < u → u ≤ top → (m : Node) → seen u ≡ Some m → LitAt u m zs = λ u g k m f.
        let fresh : (x : ℕ) → 0 < x → NamesPlace m x → (x ≡ i → ⊥) × (x ≡ a → ⊥) = λ x z named. (
          λ w. once seen lower spans u p (omega arith) (omega arith) up (omega arith) (λ v. omega arith) m n f e x z named (inl (sym w)),
          λ w. once seen lower spans u p (omega arith) (omega arith) up (omega arith) (λ v. omega arith) m n f e x z named (inr (sym w)),
        ) in
        lit_same m.kind (0 < m.inside) (0 < m.after)
        (get_or xs (per_place * u) 0) (get_or xs (per_place * u + 2) 0) (get_or xs (per_place * m.inside) 0) (get_or xs (per_place * m.after) 0)
        (get_or xs (per_place * m.inside + 2) 0) (get_or xs (per_place * m.after + 2) 0) (get_or xs (per_place * u + 1) 0)
        (get_or zs (per_place * u) 0) (get_or zs (per_place * u + 2) 0) (get_or zs (per_place * m.inside) 0) (get_or zs (per_place * m.after) 0)
        (get_or zs (per_place * m.inside + 2) 0) (get_or zs (per_place * m.after + 2) 0) (get_or zs (per_place * u + 1) 0)
        (sym (sk u)) (sym (ek u (λ z. omega arith) (λ z. omega arith))) (sym (sk m.inside)) (sym (sk m.after))
        (λ z. let d = fresh m.inside z (inl refl) in sym (ek m.inside d.0 d.1))
        (λ z. let d = fresh m.after z (inr refl) in sym (ek m.after d.0 d.1))
        (sym (mk u (λ z. omega arith))) (inv.lit u g k m f) in
        let all : LitAbove seen top (p - 1) zs =
        record {
          somes = λ u g. subst (λ z. ExactSome kinds T (run_at seen u) (bit z)) (sym (sk u)) (inv.somes u g);
          start = ek top (λ z. omega arith) (λ z. omega arith) ∙ inv.start;
          lit = λ u g k m f. elim (cases_eq u p) [
            | inl z ↦ again p u z n m zs e f here
            | inr d ↦ there u (omega arith) k m f
          ];
        } in
        subst (LitAbove seen top (p - 1)) (sym pass.is) all
      where
        again : (p u : ℕ) → u ≡ p → (n m : Node) (zs : List ℕ) → seen p ≡ Some n → seen u ≡ Some m → LitAt p n zs → LitAt u m zs
        again p u z n m zs e f x =
            let s : Some n ≡ Some m = sym e ∙ (ap seen (sym z) ∙ f) in
            let w : n ≡ m = cc in
            subst₂ (λ v o. LitAt v o zs) (sym z) w x

    pub lit_all : (xs : List ℕ) → Spans seen 0 top top → LitAbove seen top 0 xs → Listed kinds T seen top xs
    lit_all xs spans inv m one =
        listed kinds T seen lower top (λ u. get_or xs (per_place * u) 0) (λ u. get_or xs (per_place * u + 2) 0) (λ u. get_or xs (per_place * u + 1) 0)
        inv.somes (λ u l h n e. inv.lit u l h n e) m spans inv.start one
