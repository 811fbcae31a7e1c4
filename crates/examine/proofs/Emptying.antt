-- Empty rules to what a line shows.
use Rattle.std.proofs.Common.{◌≡◌, ◌≢◌, ℕ, ◌<◌, length, sym, refl, ap, ◌∙◌, subst, inl, inr, arith}
use Rattle.table.specs.declared.rule.Rule.{Rule}
use Rattle.table.specs.declared.rule.Step.TheVariants.{Empty}
use Rattle.table.specs.Table.{At}
use Rattle.table.specs.Reading.{skip, Skips}
use Rattle.examine.specs.declared.fact.Sort.TheVariants.{Together}
use Rattle.examine.specs.declared.fact.Fact.{Fact}
use Rattle.examine.specs.declared.line.Line.{Line}
use Rattle.examine.specs.declared.line.LineStep.{LineStep}
use Rattle.examine.specs.Facts.{together, poised, apart, Steady, Leads}
use Rattle.examine.specs.Facts.Leads.{slips, slides, against, forks, both}
use Rattle.examine.specs.Lines.{line_at}
use Rattle.examine.specs.Lines.Spells.{first as spells_first, second as spells_second, both as spells_both}
use Rattle.examine.specs.Search.{Setting, State, slot, told, Shows, Low, line_of, Known, Fine, Grown, Due, Used, Ready, LedBy, Forked}
use Rattle.table.proofs.Rules.{at_one}
use Rattle.examine.proofs.Spelling.{spells_lasts}
use Rattle.examine.proofs.Claims.{known_on}

module _ {C : Type 0} (G : Setting C) where
  pub line_on : {s t : State} (b : ℕ) → Grown s t → 0 < b → (x : Fact) → line_of G s x ≡ b → line_of G t x ≡ b
  line_on b g z x e = g.kept (slot G.forms G.states x) (omega arith) ∙ e

  pub line_low : {s : State} {b : ℕ} → Ready G s b → Low G (told Together (line_at s.lines b))
  line_low {s} {b} ready = ready.fine.low b ready.used.0 ready.used.1

  pub rule_low : {s : State} → Fine G s → (r : ℕ) {from to : ℕ} → Skips G.pattern r from to → (from < G.states) × (to < G.states)
  rule_low f r h = (
    f.bounded.pattern_states _ (inr (r, (record { from = _; to = _; step = Empty }), h, inl refl)),
    f.bounded.pattern_states _ (inr (r, (record { from = _; to = _; step = Empty }), h, inr (inl refl))),
  )

  -- what line b shows
  pub shown_by : {s : State} {b : ℕ} → Fine G s → (x : Fact) → Known G s x → line_of G s x ≡ b → Shows (line_at s.lines) x b
  shown_by {s} f x k e = subst (Shows (line_at s.lines) x) e (f.shows x k).1

  pub found_by : {s : State} → Fine G s → (x : Fact) → Low G x → (i : ℕ) → 0 < i → line_of G s x ≡ i → Used s i × Shows (line_at s.lines) x i
  found_by {s} f x low i z e =
      let h = f.shows x (record { low = low; lined = omega arith }) in
      ((z, subst (λ n. n < s.used) e h.0), subst (Shows (line_at s.lines) x) e h.1)

  pub lead_due : {s : State} {b r : ℕ} {x y : Fact} {e : LineStep} → Fine G s → Used s b → Leads G.pattern b r x y e → Low G y → Shows (line_at s.lines) x b
      → Due G s y.sort (record { form = y.form; first = y.first; second = y.second; run = (line_at s.lines b).run; step = e })
  lead_due {s} {b} fine u (slips r h) low sh =
      record {
        low = low;
        follows = (u, (sh.form_is, refl), subst (Skips G.pattern r _) (sym sh.first_is) h, sh.second_is);
        form = sh.form;
        first = skip r sh.first;
        second = sh.second;
        spells = λ lines same here. spells_first (ap (λ (m : Line). m.step) here) (spells_lasts G.kinds G.form G.pattern (line_at s.lines) s.used fine.good lines same u.0 u.1 sh.spells);
        says = sh.says;
      }
  lead_due {s} {b} fine u (slides r h) low sh =
      record {
        low = low;
        follows = (u, (sh.form_is, refl), sh.first_is, subst (Skips G.pattern r _) (sym sh.second_is) h);
        form = sh.form;
        first = sh.first;
        second = skip r sh.second;
        spells = λ lines same here. spells_second (ap (λ (m : Line). m.step) here) (spells_lasts G.kinds G.form G.pattern (line_at s.lines) s.used fine.good lines same u.0 u.1 sh.spells);
        says = tt;
      }
  lead_due {s} {b} fine u (against r h) low sh =
      record {
        low = low;
        follows = (u, (sh.form_is, refl), subst (Skips G.pattern r _) (sym sh.first_is) h, sh.second_is);
        form = sh.form;
        first = skip r sh.first;
        second = sh.second;
        spells = λ lines same here. spells_first (ap (λ (m : Line). m.step) here) (spells_lasts G.kinds G.form G.pattern (line_at s.lines) s.used fine.good lines same u.0 u.1 sh.spells);
        says = λ d. subst Steady (sym d) sh.says;
      }
  lead_due {s} {b} fine u (forks r r₂ n h h₂) low sh =
      record {
        low = low;
        follows = (u, (sh.form_is, refl), subst (Skips G.pattern r _) (sym sh.first_is) h, subst (Skips G.pattern r₂ _) (sym sh.second_is) h₂);
        form = sh.form;
        first = skip r sh.first;
        second = skip r₂ sh.second;
        spells = λ lines same here. spells_both (ap (λ (m : Line). m.step) here) (spells_lasts G.kinds G.form G.pattern (line_at s.lines) s.used fine.good lines same u.0 u.1 sh.spells);
        says = λ d. n cc;
      }
  lead_due {s} {b} fine u (both r h) low sh =
      record {
        low = low;
        follows = (u, (sh.form_is, refl), subst (Skips G.pattern r _) (sym sh.first_is) h, subst (Skips G.pattern r _) (sym sh.second_is) h);
        form = sh.form;
        first = skip r sh.first;
        second = skip r sh.second;
        spells = λ lines same here. spells_both (ap (λ (m : Line). m.step) here) (spells_lasts G.kinds G.form G.pattern (line_at s.lines) s.used fine.good lines same u.0 u.1 sh.spells);
        says = λ d. sh.says cc;
      }

  -- a rule number has one empty rule
  same_skip : (r : ℕ) {p t from to : ℕ} → Skips G.pattern r p t → Skips G.pattern r from to → (p ≡ from) × (t ≡ to)
  same_skip r h k = let e = at_one G.pattern.rules r _ _ h k in (ap (λ (x : Rule C). x.from) e, ap (λ (x : Rule C). x.to) e)

  -- the states of line b, as a fact that it shows has them
  module _ (s : State) (b : ℕ) (fine : Fine G s) where
    abbrev l : Line
    l = line_at s.lines b

    form_at : (x : Fact) → Known G s x → line_of G s x ≡ b → x.form ≡ l.form
    form_at x k e = sym (shown_by fine x k e).form_is

    first_at : (x : Fact) → Known G s x → line_of G s x ≡ b → x.first ≡ l.first
    first_at x k e = sym (shown_by fine x k e).first_is

    second_at : (x : Fact) → Known G s x → line_of G s x ≡ b → x.second ≡ l.second
    second_at x k e = sym (shown_by fine x k e).second_is

    abbrev Then : State → Fact → Fact → Type 0
    Then t x y = line_of G s x ≡ b → Known G t y

    -- a step from one pair of facts is a step from an equal pair
    moved : {t : State} {x x' y y' : Fact} → x ≡ x' → y ≡ y' → Then t x' y' → Then t x y
    moved {t} d e f h = subst (Known G t) (sym e) (f (ap (line_of G s) (sym d) ∙ h))

    pub skips_done : {t : State} (r from to : ℕ) → Skips G.pattern r from to
        → Then t (poised l.form to l.second) (poised l.form from l.second)
        → Then t (poised l.form to from) (apart l.form from)
        → Then t (together l.form l.first to) (together l.form l.first from)
        → Then t (apart l.form to) (apart l.form from)
        → ((r₂ : ℕ) → Forked G s t b r r₂)
        → LedBy G s t b r
    skips_done r from to rule o₁ o₂ o₃ o₄ o₅ x y e (slips _ h) k w =
        let a = same_skip r h rule in
        let d = form_at x k w in
        let c = second_at x k w in
        moved (λ i. poised (d i) (a.1 i) (c i)) (λ i. poised (d i) (a.0 i) (c i)) o₁ w
    skips_done r from to rule o₁ o₂ o₃ o₄ o₅ x y e (slides _ h) k w =
        let a = same_skip r h rule in
        let d = form_at x k w in
        let c = first_at x k w in
        moved (λ i. together (d i) (c i) (a.1 i)) (λ i. together (d i) (c i) (a.0 i)) o₃ w
    skips_done r from to rule o₁ o₂ o₃ o₄ o₅ x y e (against _ h) k w =
        let a = same_skip r h rule in
        let d = form_at x k w in
        moved (λ i. poised (d i) (a.1 i) (a.0 i)) (λ i. apart (d i) (a.0 i)) o₂ w
    skips_done r from to rule o₁ o₂ o₃ o₄ o₅ x y e (forks {f} {p} {t₁} {t₂} _ r₂ n h h₂) k w = o₅ r₂ f p t₁ t₂ n h h₂ k w
    skips_done r from to rule o₁ o₂ o₃ o₄ o₅ x y e (both _ h) k w =
        let a = same_skip r h rule in
        let d = form_at x k w in
        moved (λ i. apart (d i) (a.1 i)) (λ i. apart (d i) (a.0 i)) o₄ w

    -- a rule to another state leads to nothing that line b shows
    pub leads_not : {t : State} (r : ℕ) (x : Rule C) → At G.pattern.rules r x → (x.to ≡ l.first → ⊥) → (x.to ≡ l.second → ⊥) → LedBy G s t b r
    leads_not r x at n m y z e (slips _ h) k w = absurd (n (ap (λ (v : Rule C). v.to) (at_one G.pattern.rules r _ _ at h) ∙ first_at y k w))
    leads_not r x at n m y z e (slides _ h) k w = absurd (m (ap (λ (v : Rule C). v.to) (at_one G.pattern.rules r _ _ at h) ∙ second_at y k w))
    leads_not r x at n m y z e (against _ h) k w = absurd (n (ap (λ (v : Rule C). v.to) (at_one G.pattern.rules r _ _ at h) ∙ first_at y k w))
    leads_not r x at n m y z e (forks _ _ d h h₂) k w = absurd (n (ap (λ (v : Rule C). v.to) (at_one G.pattern.rules r _ _ at h) ∙ first_at y k w))
    leads_not r x at n m y z e (both _ h) k w = absurd (n (ap (λ (v : Rule C). v.to) (at_one G.pattern.rules r _ _ at h) ∙ first_at y k w))

    -- rule i was tried beside rule r
    pub fork_done : {t : State} (r from to i : ℕ) (x : Rule C) → Skips G.pattern r from to → At G.pattern.rules i x
        → (x.step ≡ Empty → (i ≢ r) → x.from ≡ from → x.to ≡ l.second → Then t (together l.form to l.second) (apart l.form from)) → Forked G s t b r i
    fork_done r from to i x rule at done f p u v n h h₂ k w =
        let a = same_skip r h rule in
        let z = at_one G.pattern.rules i _ _ at h₂ in
        let d = form_at (together f u v) k w in
        let c = second_at (together f u v) k w in
        let o = done (ap (λ (y : Rule C). y.step) z) (λ m. n (sym m)) (ap (λ (y : Rule C). y.from) z ∙ a.0) (ap (λ (y : Rule C). y.to) z ∙ c) in
        moved (λ j. together (d j) (a.1 j) (c j)) (λ j. apart (d j) (a.0 j)) o w

  -- every step by rule r has an empty rule r
  led_rule : {b r : ℕ} {x y : Fact} {e : LineStep} → Leads G.pattern b r x y e → (p t : ℕ) × Skips G.pattern r p t
  led_rule (slips {p = p} {t = t} _ h) = (p, t, h)
  led_rule (slides {q = q} {t = t} _ h) = (q, t, h)
  led_rule (against {p = p} {t = t} _ h) = (p, t, h)
  led_rule (forks {p = p} {t₁ = t} _ _ n h h₂) = (p, t, h)
  led_rule (both {p = p} {t = t} _ h) = (p, t, h)

  -- a node rule leads nowhere
  pub node_leads_not : {s t : State} (b r : ℕ) (x : Rule C) → At G.pattern.rules r x → (x.step ≡ Empty → ⊥) → LedBy G s t b r
  node_leads_not b r x at n y z e l k w =
      let h = led_rule l in
      absurd (n (ap (λ (v : Rule C). v.step) (at_one G.pattern.rules r _ _ at h.2)))

  -- the rules of a fork
  pub fork_leads : (b r from to i second f : ℕ) (x : Rule C) → Skips G.pattern r from to → At G.pattern.rules i x → x.step ≡ Empty → (i ≢ r) → x.from ≡ from → x.to ≡ second
      → Leads G.pattern b r (together f to second) (apart f from) (LineStep.Both r i b)
  fork_leads b r from to i second f x rule at e n a c =
      let q : ◌≡◌ {A = Rule C} x (record { from = from; to = second; step = Empty }) = λ j. record { from = a j; to = c j; step = e j } in
      forks r i (λ m. n (sym m)) rule (subst (At G.pattern.rules i) q at)

  pub forked_on : {s t u : State} (b r r₂ : ℕ) → Grown t u → Forked G s t b r r₂ → Forked G s u b r r₂
  forked_on b r r₂ g d f p v w n h h₂ k e = known_on g _ (d f p v w n h h₂ k e)

  pub led_on : {s t u : State} (b r : ℕ) → Grown t u → LedBy G s t b r → LedBy G s u b r
  led_on b r g d x y e l k w = known_on g y (d x y e l k w)

  pub led_from : {s t u : State} (b r : ℕ) → 0 < b → Grown s t → LedBy G t u b r → LedBy G s u b r
  led_from b r z g d x y e l k w = d x y e l (known_on g x k) (line_on b g z x w)

  pub forked_from : {s t u : State} (b r r₂ : ℕ) → 0 < b → Grown s t → Forked G t u b r r₂ → Forked G s u b r r₂
  forked_from b r r₂ z g d f p v w n h h₂ k e = d f p v w n h h₂ (known_on g (together f v w) k) (line_on b g z (together f v w) e)

  pub led_past : {b r : ℕ} {x y : Fact} {e : LineStep} → Leads G.pattern b r x y e → r < length G.pattern.rules
  led_past l = (led_rule l).2.0
