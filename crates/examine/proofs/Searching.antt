-- From the first lines to facts that nothing can be added to.
use Rattle.std.proofs.Common.{◌≡◌, ℕ, ◌+◌, ◌<◌, ◌≤◌, true, ◌&&◌, eqb, ltb, None, sym, refl, ap, inl, inr, arith}
use Rattle.std.proofs.lemmas.Bool.{and_parts, and_from, eq-eqb, lt-ltb, cases_eq}
use Rattle.table.specs.Sets.{bit}
use Rattle.table.specs.Table.{Tab}
use Rattle.table.specs.Reading.{stop}
use Rattle.examine.specs.declared.fact.Sort.TheVariants.{Poised}
use Rattle.examine.specs.declared.fact.Fact.{Fact}
use Rattle.examine.specs.declared.line.Line.{Line}
use Rattle.examine.specs.declared.line.LineStep.{LineStep}
use Rattle.examine.specs.declared.line.LineStep.TheVariants.{Stop, First, Second, Both}
use Rattle.examine.specs.declared.turn.Side.TheVariants.{Inside}
use Rattle.examine.specs.Facts.{poised, Leads, Closed}
use Rattle.examine.specs.Facts.Leads.{slips, slides, against, forks, both}
use Rattle.examine.specs.Lines.Spells.{stops}
use Rattle.examine.specs.Search.{Setting, State, slot, Low, line_of, Known, Fine, Grown, On, Due}
use Rattle.examine.specs.Turns.{Crossed}
use Rattle.examine.specs.Frontiers.{all_final, Begun, Followed, Tried}
use Rattle.examine.proofs.Claims.{known_on}

-- a step by an empty rule, to another line
moved_to : {C : Type 0} {P : Tab C} {b r : ℕ} {x y : Fact} {e : LineStep} (b' : ℕ) → Leads P b r x y e → (e' : LineStep) × Leads P b' r x y e'
moved_to b' (slips r h) = (First r b', slips r h)
moved_to b' (slides r h) = (Second r b', slides r h)
moved_to b' (against r h) = (First r b', against r h)
moved_to b' (forks r r₂ n h h₂) = (Both r r₂ b', forks r r₂ n h h₂)
moved_to b' (both r h) = (Both r r b', both r h)

module _ {C : Type 0} (G : Setting C) where
  -- three final states make a line
  pub stop_due : (s : State) (f p q : ℕ) → Low G (poised f p q) → true ≡ all_final G f p q → Due G s Poised (record { form = f; first = p; second = q; run = None; step = Stop })
  stop_due s f p q low e =
      let u = and_parts (bit G.form.finals f) (bit G.pattern.finals p && bit G.pattern.finals q) (sym e) in
      let v = and_parts (bit G.pattern.finals p) (bit G.pattern.finals q) u.1 in
      record {
        low = low;
        follows = (refl, u.0, v.0, v.1);
        form = stop;
        first = stop;
        second = stop;
        spells = λ lines same here. stops (ap (λ (m : Line). m.step) here);
        says = tt;
      }

  pub begun_on : {s t : State} (f p q : ℕ) → Grown s t → Begun G s f p q → Begun G t f p q
  begun_on f p q g d e = known_on g (poised f p q) (d e)

  -- a fact whose line is old was known
  pub known_old : {s t : State} → Grown s t → (x : Fact) → Known G t x → line_of G t x < s.used → (line_of G t x ≡ line_of G s x) × Known G s x
  known_old {s} g x k h =
      let e = g.old (slot G.forms G.states x) h in
      (e, record { low = k.low; lined = let z = k.lined in omega arith })

  module _ {s t : State} (a b : ℕ) (on : On G s t) (tried : Tried G s a b) where
    -- one line more was taken as what follows
    pub tried_after : b < s.used → a ≤ b → Followed G s t a b → Tried G t a (b + 1)
    tried_after below order followed =
        record {
          empties = λ r x y e l k h.
              let o = known_old on.grown x k (omega arith) in
              let d = o.0 in
              let m = moved_to (line_of G s x) l in
              elim (cases_eq (line_of G s x) b) [
                | inl w ↦ let n = moved_to b l in followed.empties r x y n.0 n.1 o.1 w
                | inr w ↦ known_on on.grown y (tried.empties r x y m.0 m.1 o.1 (omega arith))
              ];
          joins = λ k r₀ r₁ r₂ x y z j p q h i.
              let u = known_old on.grown x p (omega arith) in
              let v = known_old on.grown y q (omega arith) in
              let d = u.0 in
              let e = v.0 in
              elim (cases_eq (line_of G s y) b) [
                | inl w ↦ followed.joins r₀ r₁ r₂ k x y z j u.1 v.1
                    (and_from (eqb (line_of G s y) b) (ltb (line_of G s x) a) (eq-eqb (line_of G s y) b w) (lt-ltb (line_of G s x) a (omega arith)))
                | inr w ↦ known_on on.grown z (tried.joins k r₀ r₁ r₂ x y z j u.1 v.1 (omega arith) (omega arith))
              ];
        }

    -- one line more was taken inside
    pub tried_inside : a < s.used → b ≤ s.used → ((r₀ r₁ r₂ : ℕ) → Crossed G s t (record { side = Inside; line = a; bound = b }) r₀ r₁ r₂) → Tried G t (a + 1) b
    tried_inside below order crossed =
        record {
          empties = λ r x y e l k h.
              let o = known_old on.grown x k (omega arith) in
              let d = o.0 in
              let m = moved_to (line_of G s x) l in
              known_on on.grown y (tried.empties r x y m.0 m.1 o.1 (omega arith));
          joins = λ k r₀ r₁ r₂ x y z j p q h i.
              let u = known_old on.grown x p (omega arith) in
              let v = known_old on.grown y q (omega arith) in
              let d = u.0 in
              let e = v.0 in
              elim (cases_eq (line_of G s x) a) [
                | inl w ↦ crossed r₀ r₁ r₂ k x y z j u.1 v.1
                    (and_from (eqb (line_of G s x) a) (ltb (line_of G s y) b) (eq-eqb (line_of G s x) a w) (lt-ltb (line_of G s y) b (omega arith)))
                | inr w ↦ known_on on.grown z (tried.joins k r₀ r₁ r₂ x y z j u.1 v.1 (omega arith) (omega arith))
              ];
        }

  -- where every line was taken, nothing can be added
  pub tried_all : {s : State} (a b : ℕ) → Fine G s → Tried G s a b → s.used ≤ a → s.used ≤ b → ((f p q : ℕ) → Begun G s f p q) → Closed G.kinds G.form G.pattern (Known G s)
  tried_all {s} a b fine tried ha hb begun =
      record {
        ends = λ f p q x y z. begun f p q (and_from (bit G.form.finals f) (bit G.pattern.finals p && bit G.pattern.finals q) x (and_from (bit G.pattern.finals p) (bit G.pattern.finals q) y z));
        rests = fine.rests;
        leads = λ c r x y e l k. let h = (fine.shows x k).0 in let m = moved_to (line_of G s x) l in tried.empties r x y m.0 m.1 k (omega arith);
        joins = λ k r₀ r₁ r₂ x y z j p q. let h = (fine.shows x p).0 in let i = (fine.shows y q).0 in tried.joins k r₀ r₁ r₂ x y z j p q (omega arith) (omega arith);
      }

  -- final states are below the state counts
  pub begun_low : {s : State} → Fine G s → (f p q : ℕ) → all_final G f p q ≡ true → Low G (poised f p q)
  begun_low fine f p q e =
      let u = and_parts (bit G.form.finals f) (bit G.pattern.finals p && bit G.pattern.finals q) e in
      let v = and_parts (bit G.pattern.finals p) (bit G.pattern.finals q) u.1 in
      (fine.bounded.form_states f (inl (inr u.0)), fine.bounded.pattern_states p (inl (inr v.0)), fine.bounded.pattern_states q (inl (inr v.1)))
