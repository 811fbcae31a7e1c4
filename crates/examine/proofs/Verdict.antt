-- What a search that is over says.
use Rattle.std.proofs.Common.{◌≡◌, ℕ, zero, suc, ◌+◌, ◌<◌, ◌≤◌, Bool, true, not, ◌&&◌, ◌||◌, eqb, List, length, min, get_or, Some, None, Ok, Err, Option, Result, sym, refl, ap, ap₂, ◌∙◌, subst, arith, MatchResult}
use native.Mathlib.Decide.{ℕ_discrete}
use Rattle.std.proofs.lemmas.Bool.{and_parts, and_from, eq-eqb, ne_eqb, true≢false}
use Rattle.record.specs.declared.run.Node.{Node as Seen}
use Rattle.record.specs.Run.{run_at}
use Rattle.table.proofs.Meaning.{states_counted}
use Rattle.table.specs.Sets.{bit, Bit}
use Rattle.table.specs.Table.{Tab}
use Rattle.table.specs.declared.fault.Role.TheVariants.{Form, Pattern}
use Rattle.table.specs.Limits.{form_states, pattern_states}
use Rattle.table.specs.Check.{SoundTable, StateCount}
use Rattle.table.specs.Reading.{Reading, Reads, Whole, Twofold}
use Rattle.examine.specs.declared.fact.Sort.{Sort}
use Rattle.examine.specs.declared.fact.Sort.TheVariants.{Together, Poised, Apart}
use Rattle.examine.specs.declared.fact.Fact.{Fact}
use Rattle.examine.specs.declared.line.Line.{Line}
use Rattle.examine.specs.declared.product.DoubleAt.{DoubleAt}
use Rattle.examine.specs.declared.line.LineStep.{LineStep}
use Rattle.examine.specs.declared.line.LineStep.TheVariants.{Stop, First, Second, Both, Node}
use Rattle.examine.specs.Facts.{together, apart, Says, Closed, Plain}
use Rattle.examine.specs.Lines.{line_at, Follows, Good}
use Rattle.examine.specs.Sheet.{lower_only, lowered, shown}
use Rattle.examine.specs.Search.{Setting, State, Went, slot, most, is_apart, Shows, Bounded, Known, Fine, SameLists, Found}
use Rattle.examine.specs.Examine.{Needs, Examinable, run_of, Shown}
use Rattle.examine.proofs.Complete.{together as together_known, apart as apart_known}
use Rattle.examine.proofs.Spelling.{spells_read}
use Rattle.examine.proofs.Looks.{shown_lower}
use Rattle.examine.proofs.Shown.{shown_at, lower_some}
use Rattle.examine.proofs.Slots.{slot_low}

-- a good line names lower lines for its run
module _ {C : Type 0} (kinds : C → ℕ → Bool) (F P : Tab C) (lines : ℕ → Line) (n : ℕ) (good : (j : ℕ) → 0 < j → j < n → Good kinds F P lines j) where
  abbrev Falls : ℕ → Type 0
  Falls j = (m : Seen) → (lines j).run ≡ Some m → (m.inside < j) × (m.after < j)

  falls : (j : ℕ) (s : LineStep) → Follows kinds F P lines j (lines j) s → ((i : ℕ) → 0 < i → i < j → Falls i) → Falls j
  falls j Stop g ih m e = let d = g.0 in cc
  falls j (First r i) g ih m e = let h = ih i g.0.0 g.0.1 m (g.1.1 ∙ e) in let b = g.0.1 in (omega arith, omega arith)
  falls j (Second r i) g ih m e = let h = ih i g.0.0 g.0.1 m (g.1.1 ∙ e) in let b = g.0.1 in (omega arith, omega arith)
  falls j (Both r r₂ i) g ih m e = let h = ih i g.0.0 g.0.1 m (g.1.1 ∙ e) in let b = g.0.1 in (omega arith, omega arith)
  falls j (Node r₀ r₁ r₂) g ih m e =
      let d : g.node ≡ m = let a = g.run in cc in
      subst (λ (v : Seen). (v.inside < j) × (v.after < j)) d (g.inside.1, g.after.1)

  up_to : (bound j : ℕ) → j < bound → 0 < j → j < n → Falls j
  up_to zero j b z l = absurd (omega arith)
  up_to (suc bound) j b z l = falls j (lines j).step (good j z l) (λ i y k. up_to bound i (omega arith) y (omega arith))

  pub run_falls : (j : ℕ) → 0 < j → j < n → Falls j
  run_falls j z l = up_to (suc j) j (omega arith) z l

kept_run : (p : ℕ) (o : Option Seen) → ((m : Seen) → o ≡ Some m → (m.inside < p) × (m.after < p)) → lower_only p o ≡ o
kept_run p None h = refl
kept_run p (Some m) h = let f = h m refl in lower_some p m f.0 f.1

differs : (x : Sort) (p q : ℕ) (ρ₁ ρ₂ : Reading) → Says x ρ₁ ρ₂ → (is_apart x || not (eqb p q)) ≡ true → p ≡ q → ρ₁ ≡ ρ₂ → ⊥
differs Together p q ρ₁ ρ₂ s t e d = true≢false (sym t ∙ ap not (eq-eqb p q e))
differs Poised p q ρ₁ ρ₂ s t e d = true≢false (sym t ∙ ap not (eq-eqb p q e))
differs Apart p q ρ₁ ρ₂ s t e d = s d

module _ {C : Type 0} (G : Setting C) where
  abbrev F : Tab C
  F = G.form

  abbrev P : Tab C
  P = G.pattern

  -- a double that was found is shown
  module _ (s : State) (top : ℕ) (found : Found G s top) (few : most G.forms G.states ≤ 400000) where
    abbrev sheet : List Line
    sheet = s.lines

    lowered_is : lowered sheet top ≡ top
    lowered_is = let h = found.few in let r = found.room in omega arith

    sees : (j : ℕ) → 0 < j → j < top + 1 → shown sheet top j ≡ (line_at sheet j).run
    sees j z l =
        let e = lowered_is in
        shown_at sheet top j (omega arith)
        ∙ kept_run j (line_at sheet j).run (run_falls G.kinds F P (line_at sheet) (top + 1) found.good j z l)

    abbrev sh : Shows (line_at sheet) found.fact top
    sh = found.shows

    reads : (Reads G.kinds F (line_at sheet top).form (run_at (shown sheet top) top) sh.form)
        × (Reads G.kinds P (line_at sheet top).first (run_at (shown sheet top) top) sh.first)
        × (Reads G.kinds P (line_at sheet top).second (run_at (shown sheet top) top) sh.second)
    reads = spells_read G.kinds F P (line_at sheet) (top + 1) found.good (shown sheet top) (shown_lower sheet top) sees found.above (omega arith) sh.spells

    abbrev x : Fact
    x = found.fact

    starts : (Bit F.starts x.form) × (Bit P.starts x.first) × (Bit P.starts x.second) × ((is_apart x.sort || not (eqb x.first x.second)) ≡ true)
    starts =
        let u = and_parts (bit F.starts x.form) _ found.double in
        let v = and_parts (bit P.starts x.first && bit P.starts x.second) _ u.1 in
        let w = and_parts (bit P.starts x.first) (bit P.starts x.second) v.0 in
        (u.0, w.0, w.1, v.1)

    pub found_shown : Shown G.kinds F P sheet top
    found_shown =
        let h = found.few in
        let r = found.room in
        let e : run_at (shown sheet top) top ≡ run_of sheet top = ap (run_at (shown sheet top)) (sym lowered_is) in
        record {
          above = found.above;
          within = omega arith;
          few = omega arith;
          good = λ j z l. found.good j z (omega arith);
          form_starts = subst (Bit F.starts) (sym sh.form_is) starts.0;
          first_starts = subst (Bit P.starts) (sym sh.first_is) starts.1;
          second_starts = subst (Bit P.starts) (sym sh.second_is) starts.2;
          form = sh.form;
          first = sh.first;
          second = sh.second;
          spells = sh.spells;
          form_reads = subst (λ w. Reads G.kinds F (line_at sheet top).form w sh.form) e reads.0;
          first_reads = subst (λ w. Reads G.kinds P (line_at sheet top).first w sh.first) e reads.1;
          second_reads = subst (λ w. Reads G.kinds P (line_at sheet top).second w sh.second) e reads.2;
          differ = λ p d. differs x.sort x.first x.second sh.first sh.second sh.says starts.3 (sym sh.first_is ∙ (p ∙ sh.second_is)) d;
        }

    pub found_twofold : Twofold G.kinds F P
    found_twofold =
        let h = found_shown in (
          run_of sheet top,
          record { state = (line_at sheet top).form; reading = h.form; starts = h.form_starts; reads = h.form_reads },
          record {
            one = record { state = (line_at sheet top).first; reading = h.first; starts = h.first_starts; reads = h.first_reads };
            other = record { state = (line_at sheet top).second; reading = h.second; starts = h.second_starts; reads = h.second_reads };
            differ = λ e. h.differ e.0 e.1;
          },
        )

  -- where nothing can be added and no double is known, no run is twofold
  pub closed_single : {s : State} → Plain F → Fine G s → Closed G.kinds F P (Known G s) → Twofold G.kinds F P → ⊥
  closed_single {s} plain fine closed (w, fits, two) = go (ℕ_discrete two.one.state two.other.state)
    where
      one : Whole G.kinds P w
      one = two.one

      other : Whole G.kinds P w
      other = two.other

      go : Dec (two.one.state ≡ two.other.state) → ⊥
      go (yes e) =
          let k = apart_known G.kinds F P (Known G s) plain closed one.reading other.reading w fits.reading fits.state one.state
          fits.reads one.reads (subst (λ q. Reads G.kinds P q w other.reading) (sym e) other.reads) (λ d. two.differ (e, d)) in
          true≢false (sym (and_from (bit F.starts fits.state) _ fits.starts (and_from (bit P.starts one.state && bit P.starts one.state) _
          (and_from (bit P.starts one.state) (bit P.starts one.state) one.starts one.starts) refl)) ∙ fine.free (apart fits.state one.state) k)
      go (no n) =
          let k = together_known G.kinds F P (Known G s) plain closed other.reading w fits.reading one.reading fits.state one.state other.state fits.reads one.reads other.reads in
          true≢false (sym (and_from (bit F.starts fits.state) _ fits.starts (and_from (bit P.starts one.state && bit P.starts other.state) _
          (and_from (bit P.starts one.state) (bit P.starts other.state) one.starts other.starts) (ap not (ne_eqb one.state other.state n)))) ∙ fine.free (together fits.state one.state other.state) k)

  -- nothing is known at the start
  pub fine_first : (s : State) → s.used ≡ 1 → Bounded G → most G.forms G.states < length s.lines → most G.forms G.states ≤ length s.slots
      → ((i : ℕ) → i < most G.forms G.states → get_or s.slots i 0 ≡ 0) → Fine G s
  fine_first s one bounded room space clear =
      record {
        bounded = bounded;
        room = room;
        space = space;
        begun = omega arith;
        counted = omega arith;
        good = λ j z l. absurd (omega arith);
        low = λ j z l. absurd (omega arith);
        shows = λ x k. absurd (none x k);
        rests = λ f p q k. absurd (none _ k);
        free = λ x k. absurd (none x k);
      }
    where
      none : (x : Fact) → Known G s x → ⊥
      none x k = let h = k.lined in let e = clear (slot G.forms G.states x) (slot_low G x k.low) in omega arith

  -- what the search answers
  pub verdict_of : (s t : State) (r : Result (Unit {0}) DoubleAt) → Plain F → most G.forms G.states ≤ 400000
      → Went G s t (λ G _ t. Closed G.kinds G.form G.pattern (Known G t)) r
      → SameLists s t × MatchResult r (λ _. Twofold G.kinds F P → ⊥) (λ d. Twofold G.kinds F P × Shown G.kinds F P t.lines d.top)
  verdict_of s t (Ok u) plain few w = (w.0.same, closed_single plain w.0.fine w.1)
  verdict_of s t (Err d) plain few w = (w.0, (found_twofold t d.top w.1 few, found_shown t d.top w.1 few))

  -- the same, of the list that lent the lines
  pub lent_verdict : (lines lent : List Line) (r : Result (Unit {0}) DoubleAt)
      → MatchResult r (λ _. Twofold G.kinds F P → ⊥) (λ d. Twofold G.kinds F P × Shown G.kinds F P lines d.top) → lent ≡ lines
      → MatchResult r (λ _. Twofold G.kinds F P → ⊥) (λ d. Twofold G.kinds F P × Shown G.kinds F P lent d.top)
  lent_verdict lines lent r v e = rw e v

-- a sound form has no empty rule
pub sound_plain : {C : Type 0} (T : Tab C) → SoundTable Form T → Plain T
sound_plain T s r q t h = (s.rules r _ h).placed refl

-- lists that suffice have room for a line and a number for each fact
pub room_for : {C : Type 0} (F P : Tab C) (m n lines numbers : ℕ) → Examinable F P lines numbers → StateCount F m → StateCount P n → (most m n < lines) × (most m n < numbers)
room_for F P m n lines numbers x a b =
    let e = (states_counted F).only m x.needs.forms a x.needs.forms_are in
    let d = (states_counted P).only n x.needs.states b x.needs.states_are in
    let is : x.needed ≡ most m n + 1 = rw (e, d) x.needs.is in
    let r = x.room in
    let s = x.space in
    (omega arith, omega arith)

-- tables that pass the check have no more states than their role allows, so their counts say how long the lists have to be
pub needs_counted : {C : Type 0} (F P : Tab C) (m n needed : ℕ) → SoundTable Form F → SoundTable Pattern P → StateCount F m → StateCount P n
    → needed ≡ most (min m form_states) (min n pattern_states) + 1 → Needs F P needed
needs_counted F P m n needed f p a b e =
    let few = (states_counted F).within Form f m a in
    let many = (states_counted P).within Pattern p n b in
    let x : min m form_states ≡ m = omega arith in
    let y : min n pattern_states ≡ n = omega arith in
    record { forms = m; states = n; forms_are = a; states_are = b; is = e ∙ ap₂ (λ x y. most x y + 1) x y }
