-- Nodes of two facts.
use Rattle.std.proofs.Common.{◌≡◌, ℕ, ◌<◌, Bool, true, eqb, Some, None, sym, refl, ap, ◌∙◌, subst, inl, inr}
use Rattle.std.proofs.lemmas.Bool.{and_parts, and_from, eqb-true, true≢false}
use Rattle.table.specs.declared.rule.Rule.{Rule}
use Rattle.table.specs.declared.rule.Step.TheVariants.{Node as Take}
use Rattle.table.specs.Class.{Kind, Meets}
use Rattle.table.specs.Table.{Tab, At}
use Rattle.table.specs.Reading.{Reading, take, Takes}
use Rattle.table.specs.Check.{Named}
use Rattle.examine.specs.declared.fact.Sort.{Sort}
use Rattle.examine.specs.declared.fact.Sort.TheVariants.{Together, Poised, Apart}
use Rattle.examine.specs.declared.fact.Fact.{Fact}
use Rattle.examine.specs.declared.line.Line.{Line}
use Rattle.examine.specs.declared.line.LineStep.TheVariants.{Node}
use Rattle.examine.specs.declared.turn.Arm.{Arm}
use Rattle.examine.specs.declared.turn.Trio.{Trio}
use Rattle.examine.specs.declared.turn.Side.{Side}
use Rattle.examine.specs.declared.turn.Side.TheVariants.{Inside, After}
use Rattle.examine.specs.declared.turn.Turn.{Turn}
use Rattle.examine.specs.Facts.{Says, Makes}
use Rattle.examine.specs.Facts.Makes.{plain, parted, within, beyond}
use Rattle.examine.specs.Lines.{line_at}
use Rattle.examine.specs.Lines.Spells.{takes as spells_takes}
use Rattle.examine.specs.Search.{Setting, State, Low, line_of, Known, Fine, Used, Grown, Shows, Due}
use Rattle.examine.specs.Turns.{state_on, paired, pairs, Armed, Unarmed, inside_fact, after_fact, whole_fact, Taken, Met, Made, Crossed}
use Rattle.table.proofs.Rules.{at_one}
use Rattle.examine.proofs.Spelling.{spells_lasts}
use Rattle.examine.proofs.Claims.{known_on}
use Rattle.examine.proofs.Emptying.{line_on, shown_by}

-- what the readings of a node say, from what those of its parts say
node_says : {r₁ r₂ p q : ℕ} {a b c : Sort} → Makes r₁ r₂ p q a b c → (ρ₁ ρ₂ σ₁ σ₂ : Reading) → Says a ρ₁ ρ₂ → Says b σ₁ σ₂ → Says c (take r₁ ρ₁ σ₁) (take r₂ ρ₂ σ₂)
node_says plain ρ₁ ρ₂ σ₁ σ₂ h k = tt
node_says (parted n e) ρ₁ ρ₂ σ₁ σ₂ h k = λ d. n cc
node_says (within e) ρ₁ ρ₂ σ₁ σ₂ h k = λ d. h cc
node_says (beyond e) ρ₁ ρ₂ σ₁ σ₂ h k = λ d. k cc

-- the four ways in which two facts make one
pub made_by : (r₁ r₂ p q : ℕ) (D : Sort → Sort → Sort → Type 0) → D Together Together Poised → ((r₁ ≡ r₂ → ⊥) → p ≡ q → D Together Together Apart)
    → (r₁ ≡ r₂ → D Apart Together Apart) → (r₁ ≡ r₂ → D Together Apart Apart) → (a b c : Sort) → Makes r₁ r₂ p q a b c → D a b c
made_by r₁ r₂ p q D o₁ o₂ o₃ o₄ a b c plain = o₁
made_by r₁ r₂ p q D o₁ o₂ o₃ o₄ a b c (parted n e) = o₂ n e
made_by r₁ r₂ p q D o₁ o₂ o₃ o₄ a b c (within e) = o₃ e
made_by r₁ r₂ p q D o₁ o₂ o₃ o₄ a b c (beyond e) = o₄ e

module _ {C : Type 0} (kinds : C → ℕ → Bool) (T : Tab C) where
  -- a rule number has one node rule
  pub arm_is : (r f g c d s t u v : ℕ) → Takes kinds T r f c s t → Takes kinds T r g d u v → (f ≡ g) × (s ≡ u) × (t ≡ v)
  arm_is r f g c d s t u v h k =
      let e : ◌≡◌ {A = Rule C} (record { from = f; to = t; step = Take h.class s h.marks }) (record { from = g; to = v; step = Take k.class u k.marks }) = at_one T.rules r _ _ h.rule k.rule in
      (ap (λ (x : Rule C). x.from) e, let z = ap (λ (x : Rule C). x.step) e in cc, ap (λ (x : Rule C). x.to) e)

  -- a rule that takes no node, or has another state on the side of the line, is none of a node's
  pub unarmed_not : (d : Side) (r l : ℕ) (x : Rule C) → At T.rules r x → Unarmed d x l → (f k s t : ℕ) → Takes kinds T r f k s t → state_on d s t ≡ l → ⊥
  unarmed_not d r l x at n f k s t h e =
      let z : x ≡ record { from = f; to = t; step = Take h.class s h.marks } = at_one T.rules r _ _ at h.rule in
      n h.class s h.marks (ap (λ (y : Rule C). y.step) z) (ap (state_on d s) (ap (λ (y : Rule C). y.to) z) ∙ e)

  -- what the rule of an arm takes
  pub arm_takes : (d : Side) (r l : ℕ) (x : Rule C) (class : C) (a : Arm) → At T.rules r x → Armed d r x l class a → (k : ℕ) → Kind k → kinds class k ≡ true
      → Takes kinds T a.rule a.from k a.inside a.to
  arm_takes d r l x class a at is k low has =
      let from = sym is.from in
      let to = sym is.to in
      let z : x ≡ record { from = a.from; to = a.to; step = Take class a.inside is.marks } = λ i. record { from = from i; to = to i; step = is.step i } in
      record { class = class; marks = is.marks; kind = low; has = has; rule = rw is.number (subst (At T.rules r) z at) }

  -- the class of an arm has the kinds that its rule takes
  pub arm_has : (d : Side) (r l : ℕ) (x : Rule C) (class : C) (a : Arm) → At T.rules r x → Armed d r x l class a → (f k s t : ℕ) → Takes kinds T r f k s t → kinds class k ≡ true
  arm_has d r l x class a at is f k s t h =
      let z : Take class a.inside is.marks ≡ Take h.class s h.marks = sym is.step ∙ ap (λ (y : Rule C). y.step) (at_one T.rules r _ _ at h.rule) in
      let c : class ≡ h.class = cc in
      ap (λ y. kinds y k) c ∙ h.has

named_by : {C : Type 0} (kinds : C → ℕ → Bool) (T : Tab C) (m : ℕ) → ((q : ℕ) → Named T q → q < m) → (r f k s t : ℕ) → Takes kinds T r f k s t → (f < m) × (s < m) × (t < m)
named_by kinds T m low r f k s t h = (
  low f (inr (r, (record { from = f; to = t; step = Take h.class s h.marks }), h.rule, inl refl)),
  low s (inr (r, (record { from = f; to = t; step = Take h.class s h.marks }), h.rule, inr (inr refl))),
  low t (inr (r, (record { from = f; to = t; step = Take h.class s h.marks }), h.rule, inr (inl refl))),
)

module _ {C : Type 0} (G : Setting C) where
  pub inside_low : {s : State} → Fine G s → (u : Trio) → Taken G u → (x : Sort) → Low G (inside_fact x u)
  inside_low f u t x =
      ((named_by _ _ _ f.bounded.form_states _ _ _ _ _ t.form).1, (named_by _ _ _ f.bounded.pattern_states _ _ _ _ _ t.first).1, (named_by _ _ _ f.bounded.pattern_states _ _ _ _ _ t.second).1)

  pub after_low : {s : State} → Fine G s → (u : Trio) → Taken G u → (x : Sort) → Low G (after_fact x u)
  after_low f u t x =
      ((named_by _ _ _ f.bounded.form_states _ _ _ _ _ t.form).2, (named_by _ _ _ f.bounded.pattern_states _ _ _ _ _ t.first).2, (named_by _ _ _ f.bounded.pattern_states _ _ _ _ _ t.second).2)

  whole_low : {s : State} → Fine G s → (u : Trio) → Taken G u → (x : Sort) → Low G (whole_fact x u)
  whole_low f u t x =
      ((named_by _ _ _ f.bounded.form_states _ _ _ _ _ t.form).0, (named_by _ _ _ f.bounded.pattern_states _ _ _ _ _ t.first).0, (named_by _ _ _ f.bounded.pattern_states _ _ _ _ _ t.second).0)

  -- two facts make a line
  pub join_due : {s : State} → Fine G s → (u : Trio) → Taken G u → {a b c : Sort} → Makes u.first.rule u.second.rule u.first.from u.second.from a b c
      → (i j : ℕ) → Used s i → Used s j → Shows (line_at s.lines) (inside_fact a u) i → Shows (line_at s.lines) (after_fact b u) j
      → Due G s c (record {
        form = u.form.from;
        first = u.first.from;
        second = u.second.from;
        run = Some (record { kind = u.kind; inside = i; after = j });
        step = Node u.form.rule u.first.rule u.second.rule;
      })
  join_due {s} fine u t {a} {b} {c} makes i j ui uj si sj =
      record {
        low = whole_low fine u t c;
        follows = record {
          node = record { kind = u.kind; inside = i; after = j };
          run = refl;
          inside = ui;
          after = uj;
          form = rw (si.form_is, sj.form_is) t.form;
          first = rw (si.first_is, sj.first_is) t.first;
          second = rw (si.second_is, sj.second_is) t.second;
        };
        form = take u.form.rule si.form sj.form;
        first = take u.first.rule si.first sj.first;
        second = take u.second.rule si.second sj.second;
        spells = λ lines same here. spells_takes (ap (λ (m : Line). m.step) here) (ap (λ (m : Line). m.run) here)
            (spells_lasts G.kinds G.form G.pattern (line_at s.lines) s.used fine.good lines same ui.0 ui.1 si.spells)
            (spells_lasts G.kinds G.form G.pattern (line_at s.lines) s.used fine.good lines same uj.0 uj.1 sj.spells);
        says = node_says makes si.first si.second sj.first sj.second si.says sj.says;
      }

module _ {C : Type 0} (G : Setting C) where
  -- the states of the line that is taken up, on its side
  side_states : (d : Side) {s : State} (n b : ℕ) → Fine G s → (x y : Fact) → Known G s x → Known G s y → paired d n b (line_of G s x) (line_of G s y) ≡ true
      → (state_on d x.form y.form ≡ (line_at s.lines n).form) × (state_on d x.first y.first ≡ (line_at s.lines n).first) × (state_on d x.second y.second ≡ (line_at s.lines n).second)
  side_states Inside {s} n b fine x y k m e =
      let u = and_parts (eqb (line_of G s x) n) _ e in
      let h = shown_by G fine x k (eqb-true (line_of G s x) n u.0) in
      (sym h.form_is, sym h.first_is, sym h.second_is)
  side_states After {s} n b fine x y k m e =
      let u = and_parts (eqb (line_of G s y) n) _ e in
      let h = shown_by G fine y m (eqb-true (line_of G s y) n u.0) in
      (sym h.form_is, sym h.first_is, sym h.second_is)

  pub turn_states : (w : Turn) {s : State} → Fine G s → (x y : Fact) → Known G s x → Known G s y → pairs w (line_of G s x) (line_of G s y) ≡ true
      → (state_on w.side x.form y.form ≡ (line_at s.lines w.line).form) × (state_on w.side x.first y.first ≡ (line_at s.lines w.line).first)
      × (state_on w.side x.second y.second ≡ (line_at s.lines w.line).second)
  turn_states w fine x y k m e = side_states w.side w.line w.bound fine x y k m e

  pub made_on : {s t v : State} (w : Turn) → Grown t v → (x y z : Fact) → Made G s t w x y z → Made G s v w x y z
  made_on w g x y z d k m e = known_on g z (d k m e)

  pub crossed_on : {s t v : State} (w : Turn) (r₀ r₁ r₂ : ℕ) → Grown t v → Crossed G s t w r₀ r₁ r₂ → Crossed G s v w r₀ r₁ r₂
  crossed_on w r₀ r₁ r₂ g d k x y z j = made_on w g x y z (d k x y z j)

  pub made_from : {s t v : State} (w : Turn) → Grown s t → (x y z : Fact) → Made G t v w x y z → Made G s v w x y z
  made_from {s} {t} w g x y z d k m e =
      let a = line_on G (line_of G s x) g k.lined x refl in
      let b = line_on G (line_of G s y) g m.lined y refl in
      d (known_on g x k) (known_on g y m) (subst (λ i. pairs w i (line_of G t y) ≡ true) (sym a) (subst (λ j. pairs w (line_of G s x) j ≡ true) (sym b) e))

  pub crossed_from : {s t v : State} (w : Turn) (r₀ r₁ r₂ : ℕ) → Grown s t → Crossed G t v w r₀ r₁ r₂ → Crossed G s v w r₀ r₁ r₂
  crossed_from w r₀ r₁ r₂ g d k x y z j = made_from w g x y z (d k x y z j)

  -- every fact that three rules make
  pub crossed_done : {s t : State} (w : Turn) (u : Trio) → Taken G u
      → ((a b c : Sort) → Makes u.first.rule u.second.rule u.first.from u.second.from a b c → Made G s t w (inside_fact a u) (after_fact b u) (whole_fact c u))
      → Crossed G s t w u.form.rule u.first.rule u.second.rule
  crossed_done {s} {t} w u taken done k x y z j a b e =
      let h = arm_is G.kinds G.form _ _ _ _ _ _ _ _ _ j.form taken.form in
      let h₁ = arm_is G.kinds G.pattern _ _ _ _ _ _ _ _ _ j.first taken.first in
      let h₂ = arm_is G.kinds G.pattern _ _ _ _ _ _ _ _ _ j.second taken.second in
      let ex : x ≡ inside_fact x.sort u = λ i. record { sort = x.sort; form = h.1 i; first = h₁.1 i; second = h₂.1 i } in
      let ey : y ≡ after_fact y.sort u = λ i. record { sort = y.sort; form = h.2 i; first = h₁.2 i; second = h₂.2 i } in
      let ez : z ≡ whole_fact z.sort u = λ i. record { sort = z.sort; form = h.0 i; first = h₁.0 i; second = h₂.0 i } in
      let m : Makes u.first.rule u.second.rule u.first.from u.second.from x.sort y.sort z.sort =
      subst (λ p. Makes u.first.rule u.second.rule p u.second.from x.sort y.sort z.sort) h₁.0
      (subst (λ q. Makes u.first.rule u.second.rule z.first q x.sort y.sort z.sort) h₂.0 j.makes) in
      subst (Known G t) (sym ez)
      (done x.sort y.sort z.sort m (subst (Known G s) ex a) (subst (Known G s) ey b)
      (subst (λ v. pairs w (line_of G s v) (line_of G s (after_fact y.sort u)) ≡ true) ex (subst (λ v. pairs w (line_of G s x) (line_of G s v) ≡ true) ey e)))

module _ {C : Type 0} (G : Setting C) where
  -- classes that do not meet
  pub apart_kinds : (m n : C) (k : ℕ) → Meets G.kinds m n None → Kind k → G.kinds m k ≡ true → G.kinds n k ≡ true → ⊥
  apart_kinds m n k e low a b = true≢false (sym (and_from (G.kinds m k) (G.kinds n k) a b) ∙ e k low)

  -- a class of the kinds of two rules
  pub met_by : (m a b : C) (d : Side) (i j q q' : ℕ) (x y : Rule C) (f p : Arm) → At G.form.rules i x → Armed d i x q a f → At G.pattern.rules j y → Armed d j y q' b p
      → Meets G.kinds a b (Some m) → Met G m f p
  met_by m a b d i j q q' x y f p ax fx ay py meets =
      record {
        takes = λ k low h.
            let u = and_parts (G.kinds a k) (G.kinds b k) (sym (meets k low) ∙ h) in
            (arm_takes G.kinds G.form d i q x a f ax fx k low u.0, arm_takes G.kinds G.pattern d j q' y b p ay py k low u.1);
        only = λ k e s t r v w h h₁.
            meets k h.kind
            ∙ and_from (G.kinds a k) (G.kinds b k) (arm_has G.kinds G.form d i q x a f ax fx e k s t (subst (λ n. Takes G.kinds G.form n e k s t) fx.number h))
            (arm_has G.kinds G.pattern d j q' y b p ay py r k v w (subst (λ n. Takes G.kinds G.pattern n r k v w) py.number h₁));
      }

  -- three rules that take a kind of all three classes
  pub taken_by : (all m b : C) (d : Side) (form first second : Arm) (j q kind : ℕ) (y : Rule C) → Met G m form first → At G.pattern.rules j y → Armed d j y q b second
      → Meets G.kinds m b (Some all) → Kind kind → G.kinds all kind ≡ true → Taken G (record { kind = kind; form = form; first = first; second = second })
  taken_by all m b d form first second j q kind y met ay sy meets low has =
      let p = and_parts (G.kinds m kind) (G.kinds b kind) (sym (meets kind low) ∙ has) in
      let t = met.takes kind low p.0 in
      record { form = t.0; first = t.1; second = arm_takes G.kinds G.pattern d j q y b second ay sy kind low p.1 }
