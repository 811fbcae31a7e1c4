-- Sets that gather first steps, rule by rule.
use Rattle.std.proofs.Common.{◌≡◌, ℕ, ◌+◌, ◌<◌, Bool, true, ◌&&◌, ◌||◌, eqb, ◌⊎◌, ◌↔◌, sym, ◌∙◌, subst, inl, inr, arith}
use Rattle.std.proofs.lemmas.Bool.{eq-eqb, eqb-true, or_cases, or_left, or_right, and_parts, and_from, cases_eq}
use Rattle.table.specs.Counting.{Sets, First, Any, Pair, Grows}

module _ (O F : ℕ → First → Type 0) (opens : (q : ℕ) (x : First) → F q x → O q x) where
  -- the sets tell of the first steps of U
  pub record Tell (U : First → Type 0) (S : Sets) : Type 0 where
    pub anys : (q : ℕ) → (S.some q ≡ true) ↔ Any U (O q)
    pub pairs : (q : ℕ) → (S.many q ≡ true) ↔ Pair U (O q) (F q)

  -- first steps that no state has may be added
  pub tell_passed : (U V : First → Type 0) → ((x : First) → U x → V x) → ((q : ℕ) (x : First) → V x → O q x → U x)
      → (S : Sets) → Tell U S → Tell V S
  tell_passed U V more last S t =
      record {
        anys = λ q. (
          (λ e. let p = (t.anys q).0 e in (p.0, more p.0 p.1, p.2)),
          λ p. (t.anys q).1 (p.0, last q p.0 p.1 p.2, p.2),
        );
        pairs = λ q. (λ e. there q ((t.pairs q).0 e), λ p. (t.pairs q).1 (back q p));
      }
    where
      there : (q : ℕ) → Pair U (O q) (F q) → Pair V (O q) (F q)
      there q (inl p) = inl (p.0, more p.0 p.1, p.2)
      there q (inr p) = inr (p.0, p.1, p.2, more p.0 p.3, more p.1 p.4, p.5, p.6)

      back : (q : ℕ) → Pair V (O q) (F q) → Pair U (O q) (F q)
      back q (inl p) = inl (p.0, last q p.0 p.1 (opens q p.0 p.2), p.2)
      back q (inr p) = inr (p.0, p.1, p.2, last q p.0 p.3 p.5, last q p.1 p.4 p.6, p.5, p.6)

  -- one first step g of state s more
  module _ (U V : First → Type 0) (more : (x : First) → U x → V x) (s : ℕ) (g : First) (new : V g) (fresh : U g → ⊥)
      (last : (q : ℕ) (x : First) → V x → O q x → U x ⊎ ((x ≡ g) × (s ≡ q))) (here : O s g)
      (twice : Bool) (twice_means : (twice ≡ true) ↔ F s g) (S R : Sets) (grows : Grows s twice S R) (t : Tell U S) where
    anys_more : (q : ℕ) → (R.some q ≡ true) ↔ Any V (O q)
    anys_more q = (
      λ e. elim (or_cases (S.some q) (eqb s q) (sym (grows.somes q) ∙ e)) [
        | inl x ↦ let p = (t.anys q).0 x in (p.0, more p.0 p.1, p.2)
        | inr x ↦ (g, new, subst (λ z. O z g) (eqb-true s q x) here)
      ],
      λ p. grows.somes q ∙ elim (last q p.0 p.1 p.2) [
        | inl u ↦ or_left (S.some q) (eqb s q) ((t.anys q).1 (p.0, u, p.2))
        | inr x ↦ or_right (S.some q) (eqb s q) (eq-eqb s q x.1)
      ],
    )

    there : (q : ℕ) → R.many q ≡ true → Pair V (O q) (F q)
    there q e =
        elim (or_cases (S.many q) ((twice || S.some s) && eqb s q) (sym (grows.manys q) ∙ e)) [
          | inl x ↦ elim ((t.pairs q).0 x) [
            | inl p ↦ inl (p.0, more p.0 p.1, p.2)
            | inr p ↦ inr (p.0, p.1, p.2, more p.0 p.3, more p.1 p.4, p.5, p.6)
          ]
          | inr x ↦
              let a = and_parts (twice || S.some s) (eqb s q) x in
              let z = eqb-true s q a.1 in
              subst (λ r. Pair V (O r) (F r)) z (elim (or_cases twice (S.some s) a.0) [
                | inl y ↦ inl (g, new, twice_means.0 y)
                | inr y ↦
                    let p = (t.anys s).0 y in
                    inr (p.0, g, (λ w. fresh (subst U w p.1)), more p.0 p.1, new, p.2, here)
              ])
        ]

    -- the state has this first step too
    doubled : (q : ℕ) → s ≡ q → (twice || S.some s) ≡ true → R.many q ≡ true
    doubled q z b = grows.manys q ∙ or_right (S.many q) ((twice || S.some s) && eqb s q) (and_from (twice || S.some s) (eqb s q) b (eq-eqb s q z))

    mixed : (q : ℕ) → s ≡ q → (x : First) → U x → O q x → R.many q ≡ true
    mixed q z x u o = doubled q z (or_right twice (S.some s) ((t.anys s).1 (x, u, subst (λ r. O r x) (sym z) o)))

    back : (q : ℕ) → Pair V (O q) (F q) → R.many q ≡ true
    back q (inl p) =
        elim (last q p.0 p.1 (opens q p.0 p.2)) [
          | inl u ↦ grows.manys q ∙ or_left (S.many q) ((twice || S.some s) && eqb s q) ((t.pairs q).1 (inl (p.0, u, p.2)))
          | inr x ↦ doubled q x.1 (or_left twice (S.some s) (twice_means.1 (subst (λ r. F r g) (sym x.1) (subst (F q) x.0 p.2))))
        ]
    back q (inr p) =
        elim (last q p.0 p.3 p.5) [
          | inl u ↦ elim (last q p.1 p.4 p.6) [
            | inl v ↦ grows.manys q ∙ or_left (S.many q) ((twice || S.some s) && eqb s q) ((t.pairs q).1 (inr (p.0, p.1, p.2, u, v, p.5, p.6)))
            | inr y ↦ mixed q y.1 p.0 u p.5
          ]
          | inr x ↦ elim (last q p.1 p.4 p.6) [
            | inl v ↦ mixed q x.1 p.1 v p.6
            | inr y ↦ absurd (p.2 (x.0 ∙ sym y.0))
          ]
        ]

    pub tell_grown : Tell V R
    tell_grown = record { anys = anys_more; pairs = λ q. (there q, back q) }

-- a set that collects what the first n rules give
abbrev pub Collected : (ℕ → ℕ → Type 0) → ℕ → (ℕ → Bool) → Type 0
Collected P n f = (q : ℕ) → (f q ≡ true) ↔ ((r : ℕ) × (r < n) × (P r q))

module _ (P : ℕ → ℕ → Type 0) where
  -- rule n gives b
  pub collected_more : (n : ℕ) (b f g : ℕ → Bool) → ((q : ℕ) → (b q ≡ true) ↔ P n q) → ((q : ℕ) → g q ≡ (f q || b q)) → Collected P n f → Collected P (n + 1) g
  collected_more n b f g here grows c q = (
    λ e. elim (or_cases (f q) (b q) (sym (grows q) ∙ e)) [
      | inl x ↦ let p = (c q).0 x in (p.0, omega (arith, p.1), p.2)
      | inr x ↦ (n, omega arith, (here q).0 x)
    ],
    λ p. grows q ∙ elim (cases_eq p.0 n) [
      | inl z ↦ or_right (f q) (b q) ((here q).1 (subst (λ r. P r q) z p.2))
      | inr d ↦ or_left (f q) (b q) ((c q).1 (p.0, omega (arith, p.1), p.2))
    ],
  )

  -- rule n gives nothing
  pub collected_passed : (n : ℕ) (f g : ℕ → Bool) → ((q : ℕ) → P n q → ⊥) → ((q : ℕ) → g q ≡ f q) → Collected P n f → Collected P (n + 1) g
  collected_passed n f g none_here same c q = (
    λ e. let p = (c q).0 (sym (same q) ∙ e) in (p.0, omega (arith, p.1), p.2),
    λ p. same q ∙ elim (cases_eq p.0 n) [
      | inl z ↦ absurd (none_here q (subst (λ r. P r q) z p.2))
      | inr d ↦ (c q).1 (p.0, omega (arith, p.1), p.2)
    ],
  )

  pub collected_all : (n : ℕ) (f : ℕ → Bool) → ((r q : ℕ) → P r q → r < n) → Collected P n f → (q : ℕ) → (f q ≡ true) ↔ ((r : ℕ) × (P r q))
  collected_all n f all c q = (λ e. let p = (c q).0 e in (p.0, p.2), λ p. (c q).1 (p.0, all p.0 q p.1, p.1))
