-- All bytes are a record or refused.
use Rattle.std.proofs.Common.{◌≡◌, ℕ, zero, suc, ◌+◌, ◌^◌, ◌<◌, ◌≤◌, ◌⊎◌, List, ◌++◌, length, sym, refl, ap, ◌∙◌, ap₂, inl, inr, arith}
use Rattle.std.proofs.lemmas.Bool.{cases_lt}
use Rattle.record.specs.Limits.{max_bytes, max_nodes, max_levels}
use Rattle.record.specs.Numbers.{Bytes, le, value, between}
use Rattle.record.specs.Nodes.{Nodes, nil, node, bytes_of, count}
use Rattle.record.specs.Fault.{Fault, too_long, flawed}
use Rattle.record.specs.Record.{IsRecord, size_at, text_at, inside_at, end_at, Sound, Holds, Due, first, inside, after, Faulty, Refused}
use Rattle.record.proofs.Numbers.{le_value, value_bound}
use Rattle.record.proofs.Slices.{between_length, between_bytes, between_all, between_none, between_split}
use Rattle.record.proofs.Flaws.{settle}
use Rattle.record.specs.Parse.{kind_at}
use Rattle.record.proofs.Opens.{body_at}

module _ (bytes : List ℕ) (all : Bytes bytes) (short : length bytes ≤ max_bytes) where
  -- a number field of k bytes
  field_bytes : (a b k : ℕ) → a + k ≡ b → b ≤ length bytes → le k (value (between bytes a b)) ≡ between bytes a b
  field_bytes a b k e l =
      let n : k ≡ length (between bytes a b) = omega (arith, between_length bytes a b l) in
      ap (λ m. le m (value (between bytes a b))) n ∙ le_value (between bytes a b) (between_bytes bytes a b all)

  field_bound : (a b k : ℕ) → a + k ≡ b → b ≤ length bytes → value (between bytes a b) < 256 ^ k
  field_bound a b k e l =
      let n : length (between bytes a b) ≡ k = omega (arith, between_length bytes a b l) in
      rw n at (value_bound (between bytes a b) (between_bytes bytes a b all))

  -- a sound node with known nodes inside and after
  module _ (o end level before : ℕ) (s : Sound bytes o end level before) (l : end ≤ length bytes) (i a : Nodes)
      (hi : Holds bytes (inside_at bytes o) (end_at bytes o) (level + 1) (before + 1) i) (ha : Holds bytes (end_at bytes o) end level (before + 1 + count i) a) where
    text_long : length (body_at bytes o) ≡ text_at bytes o
    text_long = let x = s.text_fits in let y = s.size_fits in omega (arith, between_length bytes (o + 8) (inside_at bytes o) (omega arith))

    size_is : 4 + length (body_at bytes o) + length (bytes_of i) ≡ size_at bytes o
    size_is =
        let x = s.text_fits in
        let y = s.size_fits in
        let n = ap length hi.spelt ∙ between_length bytes (inside_at bytes o) (end_at bytes o) (omega arith) in
        omega (arith, text_long)

    spelt : bytes_of (node (kind_at bytes o) (body_at bytes o) i a) ≡ between bytes o end
    unfolding bytes_of
    spelt =
        let x = s.text_fits in
        let y = s.size_fits in
        let z = s.head_fits in
        let e₁ : le 4 (4 + length (body_at bytes o) + length (bytes_of i)) ≡ between bytes o (o + 4) = ap (le 4) size_is ∙ field_bytes o (o + 4) 4 refl (omega arith) in
        let e₂ : le 2 (kind_at bytes o) ≡ between bytes (o + 4) (o + 6) = field_bytes (o + 4) (o + 6) 2 (omega arith) (omega arith) in
        let e₃ : le 2 (length (body_at bytes o)) ≡ between bytes (o + 6) (o + 8) = ap (le 2) text_long ∙ field_bytes (o + 6) (o + 8) 2 (omega arith) (omega arith) in
        let s₁ = between_split bytes o (o + 4) end (omega arith) (omega arith) in
        let s₂ = between_split bytes (o + 4) (o + 6) end (omega arith) (omega arith) in
        let s₃ = between_split bytes (o + 6) (o + 8) end (omega arith) (omega arith) in
        let s₄ = between_split bytes (o + 8) (inside_at bytes o) end (omega arith) (omega arith) in
        let s₅ = between_split bytes (inside_at bytes o) (end_at bytes o) end (omega arith) (omega arith) in
        ap₂ ◌++◌ e₁ (ap₂ ◌++◌ e₂ (ap₂ ◌++◌ e₃ (ap (λ r. body_at bytes o ++ r) (ap₂ ◌++◌ hi.spelt ha.spelt ∙ sym s₅) ∙ sym s₄) ∙ sym s₃) ∙ sym s₂) ∙ sym s₁

    pub made : Holds bytes o end level before (node (kind_at bytes o) (body_at bytes o) i a)
    made =
        let x = s.text_fits in
        let y = s.size_fits in
        let z = s.head_fits in
        let v = hi.depth in
        let w = ha.depth in
        let m = ha.number in
        record {
          fits = (
            field_bound (o + 4) (o + 6) 2 (omega arith) (omega arith),
            between_bytes bytes (o + 8) (inside_at bytes o) all,
            omega (arith, text_long, field_bound (o + 6) (o + 8) 2 (omega arith) (omega arith)),
            omega (arith, size_is, field_bound o (o + 4) 4 refl (omega arith)),
            hi.fits,
            ha.fits,
          );
          spelt = spelt;
          depth = omega arith;
          number = omega arith;
        }

  settled : (fuel o end level before : ℕ) → (o < end → Due bytes o end level before) → o ≤ end → end ≤ length bytes → end < o + fuel
      → level ≤ max_levels + 1 → before ≤ max_nodes
      → ((n : Nodes) × Holds bytes o end level before n) ⊎ ((e : Fault) × Faulty bytes e)
  settled zero o end level before due u l f v w = absurd (omega arith)
  settled (suc fuel) o end level before due u l f v w =
      elim (cases_lt o end) [
        | inr e ↦ inl (nil, record { fits = tt; spelt = unfold bytes_of in sym (between_none bytes o end e); depth = omega arith; number = omega arith })
        | inl h ↦ elim (settle bytes o end level before) [
          | inr c ↦ inr (flawed c.0 o, record { size = short; offset = o; end = end; level = level; before = before; due = due h; flaw = c.0; called = c.1; is = refl })
          | inl s ↦
              elim (settled fuel (inside_at bytes o) (end_at bytes o) (level + 1) (before + 1) (λ g. inside (due h) s g)
              s.text_fits (let y = s.size_fits in omega arith) (let y = s.size_fits in omega arith) (let y = s.level_fits in omega arith) (let y = s.number_fits in omega arith)) [
                | inr r ↦ inr r
                | inl x ↦
                    elim (settled fuel (end_at bytes o) end level (before + 1 + count x.0) (λ g. after x.0 (due h) s x.1 g)
                    s.size_fits l (omega arith) v (let y = x.1.number in omega arith)) [
                      | inr r ↦ inr r
                      | inl y ↦ inl (node (kind_at bytes o) (body_at bytes o) x.0 y.0, made o end level before s l x.0 y.0 x.1 y.1)
                    ]
              ]
        ]
      ]

pub some_verdict : (bytes : List ℕ) → Bytes bytes → IsRecord bytes ⊎ ((e : Fault) × Refused bytes e)
some_verdict bytes all =
    elim (cases_lt max_bytes (length bytes)) [
      | inl h ↦ inr (too_long, inl (h, refl))
      | inr s ↦ elim (settled bytes all s (length bytes + 1) 0 (length bytes) 1 0 (λ h. first h) (omega arith) (omega arith) (omega arith) (omega arith) (omega arith)) [
        | inr r ↦ inr (r.0, inr r.1)
        | inl x ↦
            inl (record {
              nodes = x.0;
              fits = x.1.fits;
              spelt = x.1.spelt ∙ between_all bytes;
              size = s;
              number = let n = x.1.number in omega arith;
              depth = let d = x.1.depth in omega arith;
            })
      ]
    ]
