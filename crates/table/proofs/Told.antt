-- What the sets tell at the start states, and the count.
use Rattle.std.proofs.Common.{◌≡◌, ℕ, zero, suc, ◌+◌, ◌^◌, ◌<◌, Bool, min, true, ◌⊎◌, sym, refl, ◌∙◌, subst, inl, inr, arith}
use lib.Bits.{bit_and}
use lib.Count.{ones}
use Rattle.std.proofs.lemmas.Nat.{zero_from_ones}
use native.Mathlib.Decide.{ℕ_discrete}
use Rattle.std.proofs.lemmas.Bool.{and_parts, and_from, both_ways, cases_Bool, cases_eq, cases_lt}
use Rattle.record.specs.Run.{Run}
use Rattle.table.specs.Sets.{bit, Bit}
use Rattle.table.specs.Table.{Tab}
use Rattle.table.specs.Reading.{Reading, Reads, Whole, Counts, same_reading}
use Rattle.table.specs.Counting.{Sets, Exact}
use Rattle.table.specs.Telling.{Tells}
use Rattle.table.proofs.Bits.{bit_of_and, no_bit_from, no_bits, some_bit, one_bit, two_bits}
use Rattle.table.proofs.Rounds.{pairset}

module _ (starts some many : ℕ) where
  -- a start state with two
  pub tells_many : (bit_and starts many ≡ 0 → ⊥) → Tells starts (pairset some many) 2
  tells_many n =
      let b = some_bit (bit_and starts many) n in
      let p = and_parts _ _ (sym (bit_of_and starts many b.0) ∙ b.1) in
      inl (b.0, p.0, p.1)

  -- none has two: what is told is how many have one
  pub tells_some : bit_and starts many ≡ 0 → (n : ℕ) → n ≡ min (ones (bit_and starts some)) 2 → Tells starts (pairset some many) n
  tells_some e zero is = λ q b s.
      let z : ones (bit_and starts some) ≡ 0 = omega arith in
      no_bits _ (zero_from_ones _ z) q (bit_of_and starts some q ∙ and_from _ _ b s)
  tells_some e (suc zero) is =
      let x = one_bit (bit_and starts some) (omega arith) in
      let p = and_parts _ _ (sym (bit_of_and starts some x.0) ∙ x.1) in (
        x.0,
        p.0,
        p.1,
        λ m. no_bits _ e x.0 (bit_of_and starts many x.0 ∙ and_from _ _ p.0 m),
        λ q b s. x.2 q (bit_of_and starts some q ∙ and_from _ _ b s),
      )
  tells_some e (suc (suc zero)) is =
      let x = two_bits (bit_and starts some) (omega arith) in
      let p = and_parts _ _ (sym (bit_of_and starts some x.0) ∙ x.3) in
      let q = and_parts _ _ (sym (bit_of_and starts some x.1) ∙ x.4) in
      inr (x.0, x.1, x.2, p.0, q.0, p.1, q.1)
  tells_some e (suc (suc (suc n))) is = absurd (omega arith)

-- what the first n states tell, 0 or 1
abbrev pub ToldBelow : ℕ → Sets → ℕ → ℕ → Type 0
ToldBelow starts S n zero = (q : ℕ) → q < n → bit starts q ≡ true → S.some q ≡ true → ⊥
ToldBelow starts S n (suc zero) =
    (q : ℕ) × (q < n) × (bit starts q ≡ true) × (S.some q ≡ true) × (S.many q ≡ true → ⊥) × ((p : ℕ) → p < n → bit starts p ≡ true → S.some p ≡ true → q ≡ p)
ToldBelow starts S n (suc (suc f)) = ⊥

module _ (starts : ℕ) (S : Sets) where
  pub told_none : ToldBelow starts S 0 0
  told_none q h b s = omega arith

  -- a state that tells nothing
  pub told_passed : (n f : ℕ) → (bit starts n ≡ true → S.some n ≡ true → ⊥) → ToldBelow starts S n f → ToldBelow starts S (n + 1) f
  told_passed n zero not t = λ q h b s. elim (cases_eq q n) [
    | inl e ↦ not (subst (λ z. bit starts z ≡ true) e b) (subst (λ z. S.some z ≡ true) e s)
    | inr d ↦ t q (omega arith) b s
  ]
  told_passed n (suc zero) not t = (
    t.0,
    omega (arith, t.1),
    t.2,
    t.3,
    t.4,
    λ p h b s. elim (cases_eq p n) [
      | inl e ↦ absurd (not (subst (λ z. bit starts z ≡ true) e b) (subst (λ z. S.some z ≡ true) e s))
      | inr d ↦ t.5 p (omega arith) b s
    ],
  )
  told_passed n (suc (suc f)) not t = t

  -- the first state with a reading
  pub told_found : (n f : ℕ) → (f ≡ 1 → ⊥) → bit starts n ≡ true → S.some n ≡ true → (S.many n ≡ true → ⊥) → ToldBelow starts S n f → ToldBelow starts S (n + 1) 1
  told_found n zero d b s m t =
      (n, omega arith, b, s, m, λ p h x y. elim (cases_eq p n) [ inl e ↦ sym e | inr z ↦ absurd (t p (omega arith) x y) ])
  told_found n (suc zero) d b s m t = absurd (d refl)
  told_found n (suc (suc f)) d b s m t = absurd t

  pub tells_second : (n f : ℕ) → f ≡ 1 → bit starts n ≡ true → S.some n ≡ true → ToldBelow starts S n f → Tells starts S 2
  tells_second n zero e b s t = absurd (omega arith)
  tells_second n (suc zero) e b s t = inr (t.0, n, (λ z. omega (arith, t.1)), t.2, b, t.3, s)
  tells_second n (suc (suc f)) e b s t = absurd t

  pub tells_all : (n f : ℕ) → starts < 2 ^ n → ToldBelow starts S n f → Tells starts S f
  tells_all n zero small t = λ q b s. elim (cases_lt q n) [ inl h ↦ t q h b s | inr h ↦ no_bit_from starts n q small h b ]
  tells_all n (suc zero) small t =
      (t.0, t.2, t.3, t.4, λ p b s. elim (cases_lt p n) [ inl h ↦ t.5 p h b s | inr h ↦ absurd (no_bit_from starts n p small h b) ])
  tells_all n (suc (suc f)) small t = absurd t

-- what the sets tell, start state by start state
told_upto : (starts : ℕ) (S : Sets) (n : ℕ) → ((f : ℕ) × ToldBelow starts S n f) ⊎ Tells starts S 2
told_upto starts S zero = inl (0, told_none starts S)
told_upto starts S (suc n) = next (told_upto starts S n)
  where
    e : n + 1 ≡ suc n
    e = omega arith

    next : ((f : ℕ) × ToldBelow starts S n f) ⊎ Tells starts S 2 → ((f : ℕ) × ToldBelow starts S (suc n) f) ⊎ Tells starts S 2
    next (inr t) = inr t
    next (inl p) =
        elim (cases_Bool (bit starts n)) [
          | inr b ↦ inl (p.0, subst (λ k. ToldBelow starts S k p.0) e (told_passed starts S n p.0 (λ x y. both_ways _ b x) p.1))
          | inl b ↦ elim (cases_Bool (S.many n)) [
            | inl m ↦ inr (inl (n, b, m))
            | inr m ↦ elim (cases_Bool (S.some n)) [
              | inr s ↦ inl (p.0, subst (λ k. ToldBelow starts S k p.0) e (told_passed starts S n p.0 (λ x y. both_ways _ s y) p.1))
              | inl s ↦ elim (cases_eq p.0 1) [
                | inl z ↦ inr (tells_second starts S n p.0 z b s p.1)
                | inr d ↦ inl (1, subst (λ k. ToldBelow starts S k 1) e (told_found starts S n p.0 d b s (both_ways _ m) p.1))
              ]
            ]
          ]
        ]

-- exact sets give the count
module _ {C : Type 0} (kinds : C → ℕ → Bool) (T : Tab C) (w : Run) (S : Sets) (right : Exact kinds T w S) where
  abbrev whole : (q : ℕ) → Bit T.starts q → S.some q ≡ true → Whole kinds T w
  whole q b s = let x = (right.somes q).0 s in record { state = q; reading = x.0; starts = b; reads = x.1 }

  same : (q : ℕ) → (S.many q ≡ true → ⊥) → (ρ σ : Reading) → Reads kinds T q w ρ → Reads kinds T q w σ → ρ ≡ σ
  same q n ρ σ x y =
      elim (same_reading ℕ_discrete ρ σ) [
        | yes e ↦ e
        | no d ↦ absurd (n ((right.manys q).1 (record { one = ρ; other = σ; one_reads = x; other_reads = y; differ = d })))
      ]

  pub counted : (n : ℕ) → Tells T.starts S n → Counts kinds T w n
  counted zero t = λ x. t x.state x.starts ((right.somes x.state).1 (x.reading, x.reads))
  counted (suc zero) t =
      let p = (right.somes t.0).0 t.2 in
      record {
        whole = record { state = t.0; reading = p.0; starts = t.1; reads = p.1 };
        alone = λ x.
            let e : t.0 ≡ x.state = t.4 x.state x.starts ((right.somes x.state).1 (x.reading, x.reads)) in
            (e, same t.0 t.3 p.0 x.reading p.1 (subst (λ z. Reads kinds T z w x.reading) (sym e) x.reads));
      }
  counted (suc (suc zero)) t =
      elim t [
        | inl m ↦
            let d = (right.manys m.0).0 m.2 in
            record {
              one = record { state = m.0; reading = d.one; starts = m.1; reads = d.one_reads };
              other = record { state = m.0; reading = d.other; starts = m.1; reads = d.other_reads };
              differ = λ e. d.differ e.1;
            }
        | inr p ↦ record { one = whole p.0 p.3 p.5; other = whole p.1 p.4 p.6; differ = λ e. p.2 e.0 }
      ]
  counted (suc (suc (suc n))) t = absurd t
