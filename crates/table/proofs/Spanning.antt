-- A run that spans its places names no node place twice.
use Rattle.std.proofs.Common.{◌≡◌, ℕ, ◌+◌, ◌<◌, ◌≤◌, ◌⊎◌, Some, Option, sym, refl, ap, ◌∙◌, inl, inr, arith}
use Rattle.std.proofs.lemmas.Bool.{cases_eq, cases_lt}
use Rattle.record.specs.declared.run.Node.{Node}
use Rattle.record.specs.Run.{Lower, Spans, empty, full}

-- a node names place x
abbrev pub NamesPlace : Node → ℕ → Type 0
NamesPlace n x = (n.inside ≡ x) ⊎ (n.after ≡ x)

module _ (seen : ℕ → Option Node) (lower : Lower seen) where
  one_node : (p : ℕ) (m n : Node) → seen p ≡ Some m → seen p ≡ Some n → m ≡ n
  one_node p m n x y = let e : Some m ≡ Some n = sym x ∙ y in cc

  -- the place of a span's run is 0 if it is empty, and else its highest
  pub root : {b s p : ℕ} → Spans seen b s p → ((p ≡ 0) × (s ≡ 0)) ⊎ ((p ≡ b + s) × (0 < s))
  root empty = inl (refl, refl)
  root (full n es ep e i a) = inr (ep, omega arith)

  pub spans_seen : {b s p : ℕ} → Spans seen b s p → (u : ℕ) → b < u → u ≤ b + s → (n : Node) × (seen u ≡ Some n)
  spans_seen empty u l h = absurd (omega arith)
  spans_seen (full {b = b} {x = x} {y = y} {s = s} {p = p} n es ep e i a) u l h =
      elim (cases_eq u p) [
        | inl z ↦ (n, ap seen z ∙ e)
        | inr d ↦ elim (cases_lt (b + x) u) [
          | inl g ↦ spans_seen i u g (omega arith)
          | inr g ↦ spans_seen a u l (omega arith)
        ]
      ]

  -- the places named in a span lie in it
  names_in : {b s p : ℕ} → Spans seen b s p → (u : ℕ) → b < u → u ≤ b + s → (m : Node) → seen u ≡ Some m → (x : ℕ) → 0 < x → NamesPlace m x → b < x
  names_in empty u l h m e x z k = absurd (omega arith)
  names_in (full {b = b} {x = c} {y = y} {s = s} {p = p} n es ep e i a) u l h m f x z k =
      elim (cases_eq u p) [
        | inl q ↦
            let r = one_node p m n (ap seen (sym q) ∙ f) e in
            let ri = root i in
            let ra = root a in
            let j = ap (λ (t : Node). t.inside) r in
            let o = ap (λ (t : Node). t.after) r in
            elim k [ inl w ↦ omega arith | inr w ↦ omega arith ]
        | inr d ↦ elim (cases_lt (b + c) u) [
          | inl g ↦ let t = names_in i u g (omega arith) m f x z k in omega arith
          | inr g ↦ names_in a u l (omega arith) m f x z k
        ]
      ]

  lower_named : (u : ℕ) (m : Node) → seen u ≡ Some m → (x : ℕ) → NamesPlace m x → x < u
  lower_named u m e x (inl k) = let l = lower u m e in omega (arith, l.0)
  lower_named u m e x (inr k) = let l = lower u m e in omega (arith, l.1)

  -- the highest node of a span and another name different places
  not_root : {b s p : ℕ} → Spans seen b s p → (v : ℕ) → b < v → v ≤ b + s → (v ≡ p → ⊥) → (m l : Node) → seen p ≡ Some m → seen v ≡ Some l
      → (x : ℕ) → 0 < x → NamesPlace m x → NamesPlace l x → ⊥
  not_root empty v lo hi d m l e f x z j k = omega arith
  not_root (full {b = b} {x = c} {y = y} {s = s} {p = p} n es ep g i a) v lo hi d m l e f x z j k =
      let r = one_node p m n e g in
      let ri = root i in
      let ra = root a in
      let q = ap (λ (t : Node). t.inside) r in
      let o = ap (λ (t : Node). t.after) r in
      let w = lower_named v l f x k in
      elim (cases_lt (b + c) v) [
        | inl h ↦ let t = names_in i v h (omega arith) l f x z k in elim j [ inl y ↦ omega arith | inr y ↦ omega arith ]
        | inr h ↦ elim j [ inl y ↦ omega arith | inr y ↦ omega arith ]
      ]

  pub once : {b s p : ℕ} → Spans seen b s p → (u v : ℕ) → b < u → u ≤ b + s → b < v → v ≤ b + s → (u ≡ v → ⊥) → (m l : Node) → seen u ≡ Some m → seen v ≡ Some l
      → (x : ℕ) → 0 < x → NamesPlace m x → NamesPlace l x → ⊥
  once empty u v lu hu lv hv d m l e f x z j k = omega arith
  once (full {b = b} {x = c} {y = y} {s = s} {p = p} n es ep g i a) u v lu hu lv hv d m l e f x z j k =
      elim (cases_eq u p) [
        | inl q ↦ not_root (full n es ep g i a) v lv hv (λ t. d (q ∙ sym t)) m l (ap seen (sym q) ∙ e) f x z j k
        | inr du ↦ elim (cases_eq v p) [
          | inl q ↦ not_root (full n es ep g i a) u lu hu du l m (ap seen (sym q) ∙ f) e x z k j
          | inr dv ↦
              let wu = lower_named u m e x j in
              let wv = lower_named v l f x k in
              elim (cases_lt (b + c) u) [
                | inl hu' ↦ elim (cases_lt (b + c) v) [
                  | inl hv' ↦ once i u v hu' (omega arith) hv' (omega arith) d m l e f x z j k
                  | inr hv' ↦ let t = names_in i u hu' (omega arith) m e x z j in omega arith
                ]
                | inr hu' ↦ elim (cases_lt (b + c) v) [
                  | inl hv' ↦ let t = names_in i v hv' (omega arith) l f x z k in omega arith
                  | inr hv' ↦ once a u v lu (omega arith) lv (omega arith) d m l e f x z j k
                ]
              ]
        ]
      ]

  -- a node's two places differ
  pub apart : {b s p : ℕ} → Spans seen b s p → (u : ℕ) → b < u → u ≤ b + s → (m : Node) → seen u ≡ Some m → 0 < m.inside → m.inside ≡ m.after → ⊥
  apart empty u l h m e z q = omega arith
  apart (full {b = b} {x = c} {y = y} {s = s} {p = p} n es ep g i a) u l h m e z q =
      elim (cases_eq u p) [
        | inl w ↦
            let r = one_node p m n (ap seen (sym w) ∙ e) g in
            let ri = root i in
            let ra = root a in
            let j = ap (λ (t : Node). t.inside) r in
            let o = ap (λ (t : Node). t.after) r in
            omega arith
        | inr d ↦ elim (cases_lt (b + c) u) [
          | inl g' ↦ apart i u g' (omega arith) m e z q
          | inr g' ↦ apart a u l (omega arith) m e z q
        ]
      ]
