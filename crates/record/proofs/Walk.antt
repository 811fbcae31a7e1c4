-- One walk over the bytes, with which every verdict agrees.
use Rattle.std.proofs.Common.{◌≡◌, ℕ, zero, suc, ◌+◌, ◌<◌, ◌≤◌, ◌⊎◌, List, length, sym, refl, ap, ◌∙◌, inl, inr, arith}
use native.Mathlib.Decide.{dec_lt}
use Rattle.record.specs.Numbers.{between}
use Rattle.record.specs.Nodes.{Nodes, nil, node, bytes_of, count}
use Rattle.record.specs.declared.fault.Flaw.{Flaw}
use Rattle.record.specs.Fault.{Fault, flawed}
use Rattle.record.specs.Record.{IsRecord, inside_at, end_at, Called, Sound, Holds, Due, first, inside, after, Faulty, Refused}
use Rattle.record.proofs.Slices.{between_length, between_all}
use Rattle.record.proofs.Flaws.{settle, sound_not_called, called_one}
use Rattle.record.proofs.Due.{due_in}
use Rattle.record.specs.Parse.{kind_at}
use Rattle.record.proofs.Opens.{body_at, split}

data Outcome : Type 0 where
  ok : Nodes → Outcome
  bad : Fault → Outcome

-- the nodes after a node are known, or at fault
joined : ℕ → List ℕ → Nodes → Outcome → Outcome
joined k t i (ok a) = ok (node k t i a)
joined k t i (bad e) = bad e

-- the nodes inside it are known, or at fault
entered : (Nodes → Outcome) → Outcome → Outcome
entered go (ok i) = go i
entered go (bad e) = bad e

judged : (bytes : List ℕ) (o end level before : ℕ) → Outcome → Sound bytes o end level before ⊎ ((f : Flaw) × Called bytes o end level before f) → Outcome
judged bytes o end level before x (inl s) = x
judged bytes o end level before x (inr c) = bad (flawed c.0 o)

started : (o end : ℕ) → Outcome → Dec (o < end) → Outcome
started o end x (no n) = ok nil
started o end x (yes h) = x

walk : List ℕ → ℕ → ℕ → ℕ → ℕ → ℕ → Outcome
walk bytes zero o end level before = ok nil
walk bytes (suc fuel) o end level before =
    started o end
    (judged bytes o end level before
    (entered (λ i. joined (kind_at bytes o) (body_at bytes o) i (walk bytes fuel (end_at bytes o) end level (before + 1 + count i)))
    (walk bytes fuel (inside_at bytes o) (end_at bytes o) (level + 1) (before + 1)))
    (settle bytes o end level before))
    (dec_lt o end)

module _ (bytes : List ℕ) (fuel o end level before : ℕ) where
  started_no : (x : Outcome) → end ≤ o → (d : Dec (o < end)) → started o end x d ≡ ok nil
  unfolding started
  started_no x h (no n) = refl
  started_no x h (yes g) = absurd (omega arith)

  started_yes : (x : Outcome) → o < end → (d : Dec (o < end)) → started o end x d ≡ x
  unfolding started
  started_yes x h (no n) = absurd (n h)
  started_yes x h (yes g) = refl

  judged_sound : (x : Outcome) → Sound bytes o end level before → (s : Sound bytes o end level before ⊎ ((f : Flaw) × Called bytes o end level before f))
      → judged bytes o end level before x s ≡ x
  unfolding judged
  judged_sound x h (inl s) = refl
  judged_sound x h (inr c) = absurd (sound_not_called bytes o end level before c.0 h c.1)

  judged_called : (x : Outcome) (f : Flaw) → Called bytes o end level before f → (s : Sound bytes o end level before ⊎ ((f : Flaw) × Called bytes o end level before f))
      → judged bytes o end level before x s ≡ bad (flawed f o)
  unfolding judged
  judged_called x f h (inl s) = absurd (sound_not_called bytes o end level before f s h)
  judged_called x f h (inr c) = ap (λ g. bad (flawed g o)) (called_one bytes o end level before c.0 f c.1 h)

  walk_none : end ≤ o → walk bytes (suc fuel) o end level before ≡ ok nil
  unfolding walk
  walk_none h = started_no _ h (dec_lt o end)

  walk_sound : o < end → Sound bytes o end level before → walk bytes (suc fuel) o end level before
      ≡ entered (λ i. joined (kind_at bytes o) (body_at bytes o) i (walk bytes fuel (end_at bytes o) end level (before + 1 + count i)))
      (walk bytes fuel (inside_at bytes o) (end_at bytes o) (level + 1) (before + 1))
  unfolding walk
  walk_sound h s = started_yes _ h (dec_lt o end) ∙ judged_sound _ s (settle bytes o end level before)

  walk_called : (f : Flaw) → o < end → Called bytes o end level before f → walk bytes (suc fuel) o end level before ≡ bad (flawed f o)
  unfolding walk
  walk_called f h c = started_yes _ h (dec_lt o end) ∙ judged_called _ f c (settle bytes o end level before)

-- bytes of a run within the limits are walked to its nodes
module _ (bytes : List ℕ) where
  walk_holds : (n : Nodes) (fuel o end level before : ℕ) → Holds bytes o end level before n → o ≤ end → end ≤ length bytes → end < o + fuel
      → walk bytes fuel o end level before ≡ ok n
  unfolding entered joined
  walk_holds nil zero o end level before h u l f = absurd (omega arith)
  walk_holds (node k t i a) zero o end level before h u l f = absurd (omega arith)
  walk_holds nil (suc fuel) o end level before h u l f =
      let e : 0 ≡ length (between bytes o end) = unfold bytes_of in ap length h.spelt in
      walk_none bytes fuel o end level before (omega (arith, between_length bytes o end l))
  walk_holds (node k t i a) (suc fuel) o end level before h u l f =
      let c = split bytes o end level before k t i a h u l in
      let x = c.open' in
      let s = c.sound in
      let wi = walk_holds i fuel (inside_at bytes o) (end_at bytes o) (level + 1) (before + 1) c.inner (omega arith) (omega arith) (omega arith) in
      let wa = walk_holds a fuel (end_at bytes o) end level (before + 1 + count i) c.rest (omega arith) (omega arith) (omega arith) in
      walk_sound bytes fuel o end level before (omega arith) s
      ∙ (ap (entered (λ i. joined (kind_at bytes o) (body_at bytes o) i (walk bytes fuel (end_at bytes o) end level (before + 1 + count i)))) wi
      ∙ (ap (joined (kind_at bytes o) (body_at bytes o) i) wa ∙ (λ j. ok (node (x.kind j) (x.body j) i a))))

  -- the whole walk
  abbrev whole : Outcome
  whole = walk bytes (length bytes + 1) 0 (length bytes) 1 0

  -- what the walk meets from a node that is due is what the whole walk meets
  follows : {o end level before : ℕ} (e : Fault) → Due bytes o end level before
      → ((fuel : ℕ) → end < o + fuel → walk bytes fuel o end level before ≡ bad e) → whole ≡ bad e
  unfolding entered joined
  follows e (first h) w = w (length bytes + 1) (omega arith)
  follows e (inside {o} {end} {level} {before} d s h) w = follows e d back
    where
      back : (fuel : ℕ) → end < o + fuel → walk bytes fuel o end level before ≡ bad e
      back zero l = let g = due_in bytes d in absurd (omega arith)
      back (suc fuel) l = let g = due_in bytes d in walk_sound bytes fuel o end level before g.0 s ∙ ap (entered _) (w fuel (omega arith))
  follows e (after {o} {end} {level} {before} m d s x h) w = follows e d back
    where
      back : (fuel : ℕ) → end < o + fuel → walk bytes fuel o end level before ≡ bad e
      back zero l = let g = due_in bytes d in absurd (omega arith)
      back (suc fuel) l =
          let g = due_in bytes d in
          let z = s.text_fits in
          let wi = walk_holds m fuel (inside_at bytes o) (end_at bytes o) (level + 1) (before + 1) x z (omega arith) (omega arith) in
          walk_sound bytes fuel o end level before g.0 s
          ∙ (ap (entered (λ i. joined (kind_at bytes o) (body_at bytes o) i (walk bytes fuel (end_at bytes o) end level (before + 1 + count i)))) wi
          ∙ ap (joined (kind_at bytes o) (body_at bytes o) m) (w fuel (omega arith)))

  whole_faulty : (e : Fault) → Faulty bytes e → whole ≡ bad e
  whole_faulty e r = follows e r.due stops
    where
      stops : (fuel : ℕ) → r.end < r.offset + fuel → walk bytes fuel r.offset r.end r.level r.before ≡ bad e
      stops zero l = let g = due_in bytes r.due in absurd (omega arith)
      stops (suc fuel) l = walk_called bytes fuel r.offset r.end r.level r.before r.flaw (due_in bytes r.due).0 r.called ∙ ap bad (sym r.is)

  whole_record : (r : IsRecord bytes) → whole ≡ ok r.nodes
  whole_record r =
      walk_holds r.nodes (length bytes + 1) 0 (length bytes) 1 0
      (record { fits = r.fits; spelt = r.spelt ∙ sym (between_all bytes); depth = let d = r.depth in omega arith; number = let d = r.number in omega arith })
      (omega arith) (omega arith) (omega arith)

  pub not_both : (e : Fault) → IsRecord bytes → Refused bytes e → ⊥
  not_both e r (inl x) = let s = r.size in omega arith
  not_both e r (inr x) = let p = whole_record r in let q = whole_faulty e x in let z : ◌≡◌ {A = ℕ} 0 1 = cc in omega arith

  pub one_refusal : (d e : Fault) → Refused bytes d → Refused bytes e → d ≡ e
  one_refusal d e (inl x) (inl y) = x.1 ∙ sym y.1
  one_refusal d e (inl x) (inr y) = let s = y.size in absurd (omega arith)
  one_refusal d e (inr x) (inl y) = let s = x.size in absurd (omega arith)
  one_refusal d e (inr x) (inr y) = let p = whole_faulty d x in let q = whole_faulty e y in cc
