-- One more line.
use Rattle.std.proofs.Common.{◌≡◌, ℕ, ◌+◌, ◌<◌, ◌≤◌, Bool, true, false, not, ◌&&◌, ◌||◌, eqb, ◌⊎◌, List, length, get_or, set, is_err, Ok, Err, Result, sym, refl, ap, ◌∙◌, subst, inl, inr, arith}
use Rattle.std.proofs.lemmas.List.{get_or-set_same, get_or-set_other, length-set}
use Rattle.std.proofs.lemmas.Bool.{cases_eq, true≢false}
use Rattle.table.specs.Sets.{bit}
use Rattle.table.specs.Reading.{Reading}
use Rattle.examine.specs.declared.fact.Sort.{Sort}
use Rattle.examine.specs.declared.fact.Sort.TheVariants.{Together, Poised, Apart}
use Rattle.examine.specs.declared.fact.Fact.{Fact}
use Rattle.examine.specs.declared.line.Line.{Line}
use Rattle.examine.specs.declared.product.DoubleAt.{DoubleAt}
use Rattle.examine.specs.Facts.{together, poised, Says}
use Rattle.examine.specs.Lines.{blank, line_at, Follows, Good}
use Rattle.examine.specs.Search.{Setting, State, slot, most, rest, is_apart, noted, count, told, Shows, Low, line_of, doubles, Known, Fine, Grown, On, SameLists, Found, Went, Due, Ready}
use Rattle.examine.proofs.Slots.{slot_low, slot_same, most_few, noted_length, noted_keeps, noted_at, noted_or, count_most, count_room, count_noted, count_new}
use Rattle.examine.proofs.Spelling.{spells_lasts, follows_lasts}

-- the fact that the same line shows as well
abbrev rest_of : Fact → Fact
rest_of x = record { sort = rest x.sort; form = x.form; first = x.first; second = x.second }

rest_says : (x : Sort) (ρ₁ ρ₂ : Reading) → Says x ρ₁ ρ₂ → Says (rest x) ρ₁ ρ₂
rest_says Together ρ₁ ρ₂ s = tt
rest_says Poised ρ₁ ρ₂ s = tt
rest_says Apart ρ₁ ρ₂ s = s

rest_apart : (x : Sort) → is_apart (rest x) ≡ is_apart x
rest_apart Together = refl
rest_apart Poised = refl
rest_apart Apart = refl

never_rest : (x : Sort) → Poised ≡ rest x → ⊥
never_rest Together e = cc
never_rest Poised e = cc
never_rest Apart e = cc

-- a line keeps showing what it shows
pub shows_lasts : {C : Type 0} (G : Setting C) (lines lines' : ℕ → Line) (n : ℕ) → ((j : ℕ) → 0 < j → j < n → Good G.kinds G.form G.pattern lines j)
    → ((j : ℕ) → j < n → lines' j ≡ lines j) → (x : Fact) (j : ℕ) → 0 < j → j < n → Shows lines x j → Shows lines' x j
shows_lasts G lines lines' n good same x j z l s =
    record {
      form_is = ap (λ (m : Line). m.form) (same j l) ∙ s.form_is;
      first_is = ap (λ (m : Line). m.first) (same j l) ∙ s.first_is;
      second_is = ap (λ (m : Line). m.second) (same j l) ∙ s.second_is;
      form = s.form;
      first = s.first;
      second = s.second;
      spells = spells_lasts G.kinds G.form G.pattern lines n good lines' same z l s.spells;
      says = s.says;
    }

module _ {C : Type 0} (G : Setting C) (s : State) (x : Sort) (l : Line) (fine : Fine G s) (due : Due G s x l) (new : line_of G s (told x l) ≡ 0) where
  abbrev n : ℕ
  n = s.used

  abbrev all : ℕ
  all = most G.forms G.states

  abbrev y : Fact
  y = told x l

  abbrev at : Fact → ℕ
  at z = slot G.forms G.states z

  abbrev xs₁ : List ℕ
  xs₁ = noted s.slots (at y) n

  abbrev xs₂ : List ℕ
  xs₂ = noted xs₁ (at (rest_of y)) n

  abbrev lines' : List Line
  lines' = set s.lines n l

  -- the state after the line
  abbrev pub next : State
  next = record { lines = lines'; slots = xs₂; used = n + 1; sheet = s.sheet; helper = s.helper }

  y_low : at y < all
  y_low = slot_low G y due.low

  rest_low : at (rest_of y) < all
  rest_low = slot_low G (rest_of y) due.low

  pub fits : n ≤ all
  fits = let h = count_room s.slots all (at y) y_low new in let g = fine.counted in omega arith

  same : (j : ℕ) → j < n → line_at lines' j ≡ line_at s.lines j
  same j h = get_or-set_other s.lines n j l blank (λ e. omega arith)

  here : line_at lines' n ≡ l
  here = let h = fits in let r = fine.room in get_or-set_same s.lines n l blank (omega arith)

  space₁ : all ≤ length xs₁
  space₁ = let e = noted_length s.slots (at y) n in let h = fine.space in omega arith

  kept : (j : ℕ) → 0 < get_or s.slots j 0 → get_or xs₂ j 0 ≡ get_or s.slots j 0
  kept j h = let e = noted_keeps s.slots (at y) n j h in noted_keeps xs₁ (at (rest_of y)) n j (omega arith) ∙ e

  pub known_lasts : (z : Fact) → Known G s z → Known G next z
  known_lasts z k = record { low = k.low; lined = let e = kept (at z) k.lined in let h = k.lined in omega arith }

  -- a number of the helper is an old one, or the new line's, for one of two facts
  origin : (j : ℕ) → 0 < get_or xs₂ j 0 → (0 < get_or s.slots j 0) ⊎ (((j ≡ at y) ⊎ (j ≡ at (rest_of y))) × (get_or xs₂ j 0 ≡ n))
  origin j h =
      let a = rest_low in
      let b = y_low in
      let c = space₁ in
      let d = fine.space in
      elim (noted_or xs₁ (at (rest_of y)) n j (omega arith) h) [
        | inr e ↦ inr (inr e.0, e.1)
        | inl u ↦ elim (noted_or s.slots (at y) n j (omega arith) u) [
          | inl v ↦ inl v
          | inr e ↦ inr (inl e.0, noted_keeps xs₁ (at (rest_of y)) n j u ∙ e.1)
        ]
      ]

  -- so a known fact is an old one, or one of the two
  source : (z : Fact) → Known G next z → (Known G s z) ⊎ (((z ≡ y) ⊎ (z ≡ rest_of y)) × (line_of G next z ≡ n))
  source z k =
      elim (origin (at z) k.lined) [
        | inl v ↦ inl (record { low = k.low; lined = v })
        | inr e ↦ inr (elim e.0 [ inl a ↦ inl (slot_same G z y k.low due.low a) | inr b ↦ inr (slot_same G z (rest_of y) k.low due.low b) ], e.1)
      ]

  now_known : Known G next y
  now_known =
      let h = y_low in
      let d = fine.space in
      let e = noted_at s.slots (at y) n fine.begun (omega arith) in
      record { low = due.low; lined = let f = noted_keeps xs₁ (at (rest_of y)) n (at y) e in omega arith }

  rest_known : Known G next (rest_of y)
  rest_known = record { low = due.low; lined = let h = rest_low in let g = space₁ in noted_at xs₁ (at (rest_of y)) n fine.begun (omega arith) }

  all_good : (j : ℕ) → 0 < j → j < n + 1 → Good G.kinds G.form G.pattern (line_at lines') j
  all_good j z h =
      elim (cases_eq j n) [
        | inl e ↦ subst (Good G.kinds G.form G.pattern (line_at lines')) (sym e)
            (subst (λ (m : Line). Follows G.kinds G.form G.pattern (line_at lines') n m m.step) (sym here)
            (follows_lasts G.kinds G.form G.pattern (line_at s.lines) (line_at lines') n same l l.step due.follows))
        | inr d ↦
            let b : j < n = omega arith in
            subst (λ (m : Line). Follows G.kinds G.form G.pattern (line_at lines') j m m.step) (sym (same j b))
            (follows_lasts G.kinds G.form G.pattern (line_at s.lines) (line_at lines') j (λ i c. same i (omega arith)) (line_at s.lines j) (line_at s.lines j).step (fine.good j z b))
      ]

  all_low : (j : ℕ) → 0 < j → j < n + 1 → Low G (told Together (line_at lines' j))
  all_low j z h =
      elim (cases_eq j n) [
        | inl e ↦ subst (λ (m : Line). Low G (told Together m)) (sym (ap (line_at lines') e ∙ here)) due.low
        | inr d ↦ let b : j < n = omega arith in subst (λ (m : Line). Low G (told Together m)) (sym (same j b)) (fine.low j z b)
      ]

  y_shown : Shows (line_at lines') y n
  y_shown =
      record {
        form_is = ap (λ (m : Line). m.form) here;
        first_is = ap (λ (m : Line). m.first) here;
        second_is = ap (λ (m : Line). m.second) here;
        form = due.form;
        first = due.first;
        second = due.second;
        spells = due.spells (line_at lines') same here;
        says = due.says;
      }

  rest_shown : Shows (line_at lines') (rest_of y) n
  rest_shown =
      record {
        form_is = ap (λ (m : Line). m.form) here;
        first_is = ap (λ (m : Line). m.first) here;
        second_is = ap (λ (m : Line). m.second) here;
        form = due.form;
        first = due.first;
        second = due.second;
        spells = due.spells (line_at lines') same here;
        says = rest_says x due.first due.second due.says;
      }

  all_shows : (z : Fact) → Known G next z → (line_of G next z < n + 1) × Shows (line_at lines') z (line_of G next z)
  all_shows z k =
      elim (source z k) [
        | inl v ↦
            let t = fine.shows z v in
            let b = t.0 in
            subst (λ j. (j < n + 1) × Shows (line_at lines') z j) (sym (kept (at z) v.lined))
            (omega arith, shows_lasts G (line_at s.lines) (line_at lines') n fine.good same z (line_of G s z) v.lined t.0 t.1)
        | inr e ↦
            subst (λ j. (j < n + 1) × Shows (line_at lines') z j) (sym e.1)
            (omega arith, elim e.0 [ inl a ↦ subst (λ w. Shows (line_at lines') w n) (sym a) y_shown | inr b ↦ subst (λ w. Shows (line_at lines') w n) (sym b) rest_shown ])
      ]

  all_rests : (f p q : ℕ) → Known G next (poised f p q) → Known G next (together f p q)
  all_rests f p q k =
      elim (source (poised f p q) k) [
        | inl v ↦ known_lasts (together f p q) (fine.rests f p q v)
        | inr e ↦ elim e.0 [
          | inl a ↦ subst (λ w. Known G next (rest_of w)) (sym a) rest_known
          | inr b ↦ absurd (never_rest x (ap (λ (w : Fact). w.sort) b))
        ]
      ]

  all_counted : n + 1 ≤ count xs₂ all + 1
  all_counted =
      let h = rest_low in
      let g = y_low in
      let m = space₁ in
      let d = fine.space in
      let a = count_new s.slots all (at y) n y_low (omega arith) new fine.begun in
      let b = count_noted xs₁ all (at (rest_of y)) n rest_low (omega arith) fine.begun in
      let u = fine.counted in
      omega arith

  rest_doubles : doubles G (rest_of y) ≡ doubles G y
  rest_doubles =
      ap (λ (b : Bool). bit G.form.starts l.form && ((bit G.pattern.starts l.first && bit G.pattern.starts l.second) && (b || not (eqb l.first l.second)))) (rest_apart x)

  claimed_found : doubles G y ≡ true → Found G next n
  claimed_found d = record { above = fine.begun; few = fits; room = (let e = length-set s.lines n l in let r = fine.room in omega arith); good = all_good; fact = y; shows = y_shown; double = d }

  claimed_on : doubles G y ≡ false → On G s next × Known G next y
  claimed_on d = (
    record {
      fine = record {
        bounded = fine.bounded;
        room = let e = length-set s.lines n l in let r = fine.room in omega arith;
        space = let e = noted_length xs₁ (at (rest_of y)) n in let r = space₁ in omega arith;
        begun = omega arith;
        counted = all_counted;
        good = all_good;
        low = all_low;
        shows = all_shows;
        rests = all_rests;
        free = λ z k. elim (source z k) [
          | inl v ↦ fine.free z v
          | inr e ↦ elim e.0 [ inl a ↦ ap (doubles G) a ∙ d | inr b ↦ ap (doubles G) b ∙ (rest_doubles ∙ d) ]
        ];
      };
      grown = record {
        more = omega arith;
        same = same;
        kept = kept;
        old = λ j h. elim (cases_eq (get_or xs₂ j 0) 0) [
          | inl e ↦ elim (cases_eq (get_or s.slots j 0) 0) [ inl z ↦ e ∙ sym z | inr z ↦ kept j (omega arith) ]
          | inr d ↦ elim (origin j (omega arith)) [ inl v ↦ kept j v | inr e ↦ let q = e.1 in absurd (omega arith) ]
        ];
      };
      same = (refl, refl);
    },
    now_known,
  )

  -- the state after the line, with the numbers as a helper has them
  abbrev after : List ℕ → State
  after slots = record { lines = lines'; slots = slots; used = n + 1; sheet = s.sheet; helper = s.helper }

  pub went_found : (slots : List ℕ) → slots ≡ xs₂ → doubles G y ≡ true → SameLists s (after slots) × Found G (after slots) n
  went_found slots e d = subst (λ ys. SameLists s (after ys) × Found G (after ys) n) (sym e) ((refl, refl), claimed_found d)

  pub went_on : (slots : List ℕ) → slots ≡ xs₂ → doubles G y ≡ false → On G s (after slots) × Known G (after slots) y
  went_on slots e d = subst (λ ys. On G s (after ys) × Known G (after ys) y) (sym e) (claimed_on d)

module _ {C : Type 0} {G : Setting C} where
  pub known_on : {s t : State} → Grown s t → (x : Fact) → Known G s x → Known G t x
  known_on {s} {t} g x k = record { low = k.low; lined = let e = g.kept (slot G.forms G.states x) k.lined in let h = k.lined in omega arith }

  pub on_more : {s t u : State} → On G s t → On G t u → On G s u
  on_more a b =
      let g = a.grown in
      let h = b.grown in
      record {
        fine = b.fine;
        grown = record {
          more = omega arith;
          same = λ j l. h.same j (omega arith) ∙ g.same j l;
          kept = λ i z. let e = g.kept i z in h.kept i (omega arith) ∙ e;
          old = λ i z. let m = g.more in let e = h.old i (omega arith) in e ∙ g.old i (omega arith);
        };
        same = (b.same.0 ∙ a.same.0, b.same.1 ∙ a.same.1);
      }

  pub used_few : {s : State} → Fine G s → s.used ≤ 393217
  used_few {s} fine =
      let h = count_most s.slots (most G.forms G.states) in
      let k = fine.counted in
      let m = most_few G.forms G.states fine.bounded.forms_few fine.bounded.states_few in
      omega arith

  -- the number of a used line is small, and the line is there
  pub ready_low : {s : State} {b : ℕ} → Ready G s b → (b < 393217) × (b < length s.lines)
  ready_low {s} {b} ready =
      let h = count_most s.slots (most G.forms G.states) in
      let k = ready.fine.counted in
      let f = used_few ready.fine in
      let r = ready.fine.room in
      let u = ready.used.1 in
      (omega arith, omega arith)

  -- on from where a call began
  pub went_then : {s t u : State} (D E : Setting C → State → State → Type 0) (r : Result (Unit {0}) DoubleAt) → On G s t → (Grown t u → D G t u → E G s u)
      → Went G t u D r → Went G s u E r
  went_then D E (Ok v) a f w = (on_more a w.0, f w.0.grown w.1)
  went_then D E (Err d) a f w = ((w.0.0 ∙ a.same.0, w.0.1 ∙ a.same.1), w.1)

  -- a search that has found no double goes on
  pub went_ok : {s t : State} (D : Setting C → State → State → Type 0) (r : Result (Unit {0}) DoubleAt) → is_err r ≡ false → Went G s t D r → (r ≡ Ok tt) × (On G s t) × D G s t
  went_ok D (Ok v) e w = (refl, w.0, w.1)
  went_ok D (Err d) e w = absurd (true≢false e)

  -- one that has is over
  pub went_over : {s t : State} (u : State) (D E : Setting C → State → State → Type 0) (r : Result (Unit {0}) DoubleAt) → is_err r ≡ true → On G s t → Went G t u D r → Went G s u E r
  went_over u D E (Ok v) e a w = absurd (true≢false (sym e))
  went_over u D E (Err d) e a w = ((w.0.0 ∙ a.same.0, w.0.1 ∙ a.same.1), w.1)
