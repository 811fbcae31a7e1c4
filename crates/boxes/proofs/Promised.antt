-- The promise, read off what is kept.
use Rattle.std.proofs.Common.{◌≡◌, ℕ, ◌<◌, ◌≤◌, Bool, ◌⊎◌, List, [], ◌++◌, length, drop, Ok, Err, Result, sym, refl, ap, ◌∙◌, subst, subst₂, inl, inr, arith}
use Rattle.boxes.specs.Check.{Fails}
use Rattle.boxes.specs.Fault.{number, fault}
use Rattle.boxes.specs.Limits.{max_mark, scratch_needs}
use Rattle.record.specs.Limits.{max_nodes}
use Rattle.table.specs.declared.fault.Role.TheVariants.{Pattern}
use Rattle.boxes.specs.declared.fault.Fault.{Fault}
use Rattle.boxes.specs.declared.fault.Cause.TheVariants.{NoReading, ShortList}
use Rattle.boxes.specs.declared.shelf.Spot.{Spot}
use Rattle.boxes.specs.Record.{Read, Alike, spots}
use Rattle.boxes.specs.Calls.{buffers_checks, known_checks, Listed, Finds}
use Rattle.table.specs.Table.{Tab, At}
use Rattle.boxes.specs.Shelf.{Shelf, Box}
use Rattle.boxes.specs.Promise.{book_pattern, book_record, book_checks, FindsByBook, Found, AtStage, Holds}
use Rattle.boxes.specs.Book.{Event, Book, book, Stage, new, laid, sealed, History}
use Rattle.boxes.proofs.Parts.{at_get_or}
use Rattle.boxes.proofs.Single.{same_spots}
use Rattle.boxes.proofs.Lawful.{answers_apart}
use Rattle.boxes.proofs.Kept.{Kept, KeptAt, history_kept}
use Rattle.boxes.proofs.Finding.{single_kept, by_book}

same_fault : (f g : Fault) → ◌≡◌ {A = Result ℕ Fault} (Err f) (Err g) → f ≡ g
same_fault f g e = cc

module _ {C : Type 0} (kinds : C → ℕ → Bool) (b : Book C) (p r m index scratch : ℕ) (out : List Spot) where
  abbrev Unknown : Type 0
  Unknown = (length b.patterns ≤ p) ⊎ (length b.records ≤ r) ⊎ (max_mark < m)

  abbrev Single : Type 0
  Single = (P : Tab C) (bytes : List ℕ) → At b.patterns p P → At b.records r bytes → (x y : Read kinds P bytes) → Alike x y

  not_unknown : (length b.patterns ≤ p → ⊥) → (length b.records ≤ r → ⊥) → (max_mark < m → ⊥) → Unknown → ⊥
  not_unknown h g i (inl a) = h a
  not_unknown h g i (inr (inl a)) = g a
  not_unknown h g i (inr (inr a)) = i a

  -- why find refuses
  data Why (f : Fault) : Type 0 where
    unknown : Unknown → number f ≡ 13 → Why f
    buffers : (Unknown → ⊥) → (index < max_nodes) ⊎ (scratch < scratch_needs) → number f ≡ 8 → Why f
    no_reading : (Unknown → ⊥) → (Read kinds (book_pattern b p) (book_record b r) → ⊥) → f ≡ fault NoReading 0 → Why f
    too_short : (Unknown → ⊥) → (x : Read kinds (book_pattern b p) (book_record b r)) → length out < length (spots m x) → f ≡ fault ShortList (length (spots m x)) → Why f

  same_number : (f g : Fault) → f ≡ g → number f ≡ number g
  same_number f g e = ap number e

  why_unknown : (f : Fault) → Fails (known_checks (length b.patterns) (length b.records) p r m) f → Why f
  why_unknown f (inl a) = unknown (inl a.0) (same_number f _ a.1)
  why_unknown f (inr (h, inl a)) = unknown (inr (inl a.0)) (same_number f _ a.1)
  why_unknown f (inr (h, inr (g, inl a))) = unknown (inr (inr a.0)) (same_number f _ a.1)
  why_unknown f (inr (h, inr (g, inr x))) = absurd x.1

  why_buffers : (f : Fault) → (Unknown → ⊥) → Fails (buffers_checks Pattern index scratch) f → Why f
  why_buffers f k (inl a) = buffers k (inl a.0) (same_number f _ a.1)
  why_buffers f k (inr (h, inl a)) = buffers k (inr a.0) (same_number f _ a.1)
  why_buffers f k (inr (h, inr x)) = absurd x.1

  why : (f : Fault) → Fails (book_checks kinds b p r m index scratch out) f → Why f
  why f (inl a) = why_unknown f a
  why f (inr (h, inl a)) = why_buffers f (not_unknown h.0 h.1.0 h.1.1.0) a
  why f (inr (h, inr (g, inl a))) = no_reading (not_unknown h.0 h.1.0 h.1.1.0) a.0 a.1
  why f (inr (h, inr (g, inr (i, inl a)))) =
      let e = a.1.1 in
      let l = a.1.2 in
      too_short (not_unknown h.0 h.1.0 h.1.1.0) a.1.0 (omega arith) (a.2 ∙ ap (fault ShortList) e)
  why f (inr (h, inr (g, inr (i, inr x)))) = absurd x.1

  is_known : (P : Tab C) (bytes : List ℕ) → At b.patterns p P → At b.records r bytes → m ≤ max_mark → Unknown → ⊥
  is_known P bytes hp hr hm = not_unknown (λ l. let h = hp.0 in omega arith) (λ l. let h = hr.0 in omega arith) (λ l. omega arith)

  -- the book's pattern and record are those that it has at these numbers
  here : (Q : Tab C → List ℕ → Type 0) (P : Tab C) (bytes : List ℕ) → At b.patterns p P → At b.records r bytes → Q (book_pattern b p) (book_record b r) → Q P bytes
  here Q P bytes hp hr = subst₂ Q (at_get_or b.patterns p P _ hp) (at_get_or b.records r bytes _ hr)

  found_refused : Single → (f : Fault) (after : List Spot) → after ≡ out → Why f → Found kinds b p r m index scratch out (Err f) after
  found_refused one f after e (unknown u n) =
      record {
        lists = λ P bytes hp hr hm hi hs x fits. absurd (is_known P bytes hp hr hm u);
        short = λ P bytes hp hr hm hi hs x less. absurd (is_known P bytes hp hr hm u);
        none_there = λ P bytes hp hr hm hi hs. absurd (is_known P bytes hp hr hm u);
        faults = λ g q. inr (inl (sym (same_number f g (same_fault f g q)) ∙ n));
        unknown = (λ _. u, λ _. (f, refl, n));
      }
  found_refused one f after e (buffers k s n) =
      record {
        lists = λ P bytes hp hr hm hi hs x fits. absurd (enough hi hs);
        short = λ P bytes hp hr hm hi hs x less. absurd (enough hi hs);
        none_there = λ P bytes hp hr hm hi hs. absurd (enough hi hs);
        faults = λ g q. inl (sym (same_number f g (same_fault f g q)) ∙ n);
        unknown = (λ t. absurd (other t.0 t.1 t.2), λ u. absurd (k u));
      }
    where
      enough : max_nodes ≤ index → scratch_needs ≤ scratch → ⊥
      enough hi hs = omega arith

      other : (g : Fault) → ◌≡◌ {A = Result ℕ Fault} (Err f) (Err g) → number g ≡ 13 → ⊥
      other g q t = let d = same_number f g (same_fault f g q) in omega arith
  found_refused one f after e (no_reading k never eq) =
      record {
        lists = λ P bytes hp hr hm hi hs x fits. absurd (here (λ T t. Read kinds T t → ⊥) P bytes hp hr never x);
        short = λ P bytes hp hr hm hi hs x less. absurd (here (λ T t. Read kinds T t → ⊥) P bytes hp hr never x);
        none_there = λ P bytes hp hr hm hi hs. (λ _. here (λ T t. Read kinds T t → ⊥) P bytes hp hr never, λ _. ap Err eq);
        faults = λ g q. inr (inr (inl (sym (same_number f g (same_fault f g q)) ∙ same_number f _ eq)));
        unknown = (λ t. absurd (other t.0 t.1 t.2), λ u. absurd (k u));
      }
    where
      other : (g : Fault) → ◌≡◌ {A = Result ℕ Fault} (Err f) (Err g) → number g ≡ 13 → ⊥
      other g q t = let d = same_number f g (same_fault f g q) in let n = same_number f _ eq in omega arith
  found_refused one f after e (too_short k y less eq) =
      record {
        lists = λ P bytes hp hr hm hi hs x fits. absurd (let w = needed P bytes hp hr x in let l = w.0 in omega arith);
        short = λ P bytes hp hr hm hi hs x l. (ap Err (needed P bytes hp hr x).1, e);
        none_there = λ P bytes hp hr hm hi hs. (λ q. absurd (not_14 (same_fault f _ q)), λ n. absurd (n (here (Read kinds) P bytes hp hr y)));
        faults = λ g q. inr (inr (inr (sym (same_number f g (same_fault f g q)) ∙ same_number f _ eq)));
        unknown = (λ t. absurd (other t.0 t.1 t.2), λ u. absurd (k u));
      }
    where
      other : (g : Fault) → ◌≡◌ {A = Result ℕ Fault} (Err f) (Err g) → number g ≡ 13 → ⊥
      other g q t = let d = same_number f g (same_fault f g q) in let n = same_number f _ eq in omega arith

      not_14 : f ≡ fault NoReading 0 → ⊥
      not_14 q = let d = same_number f _ q in let n = same_number f _ eq in omega arith

      needed : (P : Tab C) (bytes : List ℕ) → At b.patterns p P → At b.records r bytes → (x : Read kinds P bytes)
          → (length out < length (spots m x)) × (f ≡ fault ShortList (length (spots m x)))
      needed P bytes hp hr x =
          let t = here (λ T t. (z : Read kinds T t) × (length out < length (spots m z)) × (f ≡ fault ShortList (length (spots m z)))) P bytes hp hr (y, less, eq) in
          let s = same_spots kinds P bytes m t.0 x (one P bytes hp hr t.0 x) in
          subst (λ (l : List Spot). (length out < length l) × (f ≡ fault ShortList (length l))) s (t.1, t.2)

  found_done : Single → (n : ℕ) (after : List Spot) → FindsByBook kinds b p r m index scratch out (Ok n) after → Found kinds b p r m index scratch out (Ok n) after
  found_done one n after x =
      record {
        lists = λ P bytes hp hr hm hi hs y fits. listed P bytes hp hr y;
        short = λ P bytes hp hr hm hi hs y less. absurd (let l = room P bytes hp hr y in omega arith);
        none_there = λ P bytes hp hr hm hi hs. (λ q. absurd (answers_apart (Ok n) _ n q refl), λ never. absurd (never (here (Read kinds) P bytes hp hr x.1.reading)));
        faults = λ g q. absurd (answers_apart (Ok n) g n q refl);
        unknown = (λ t. absurd (answers_apart (Ok n) t.0 n t.1 refl), λ u. absurd (not_unknown x.0.0.0 x.0.0.1.0 x.0.0.1.1.0 u));
      }
    where
      room : (P : Tab C) (bytes : List ℕ) → At b.patterns p P → At b.records r bytes → (y : Read kinds P bytes) → length (spots m y) ≤ length out
      room P bytes hp hr = here (λ T t. (y : Read kinds T t) → length (spots m y) ≤ length out) P bytes hp hr x.0.1.1.1.0

      listed : (P : Tab C) (bytes : List ℕ) → At b.patterns p P → At b.records r bytes → (y : Read kinds P bytes)
          → (◌≡◌ {A = Result ℕ Fault} (Ok n) (Ok (length (spots m y)))) × (after ≡ spots m y ++ drop (length (spots m y)) out)
      listed P bytes hp hr y =
          let l = here (λ T t. Listed kinds T t m out n after) P bytes hp hr x.1 in
          let s = same_spots kinds P bytes m l.reading y (one P bytes hp hr l.reading y) in
          let c = l.count ∙ ap length s in
          (ap Ok c, l.list ∙ (λ i. s i ++ drop (c i) out))

  found : Single → (a : Result ℕ Fault) (after : List Spot) → FindsByBook kinds b p r m index scratch out a after → Found kinds b p r m index scratch out a after
  found one (Err f) after x = found_refused one f after x.1 (why f x.0)
  found one (Ok n) after x = found_done one n after x

module _ {C : Type 0} (kinds : C → ℕ → Bool) where
  holds_kept : (b : Book C) (box : Box) (shelf : Shelf C) → Kept kinds b box shelf
      → (stage : Stage) → ((other : Box) → AtStage stage other → other ≡ box) → Holds kinds b stage shelf
  holds_kept b box shelf k stage same =
      record {
        fit = λ r bytes h. (k.F, k.laid_form, k.fits r bytes h);
        single = single_kept kinds b box shelf k;
        find = λ other at p r m index scratch out a after x.
            let y = by_book kinds b box shelf k p r m index scratch out a after
            (subst (λ (z : Box). Finds kinds (record { box = z; shelf = shelf }) p r m index scratch out a after) (same other at) x) in
            (y, found kinds b p r m index scratch out (λ P bytes hp hr. single_kept kinds b box shelf k p r P bytes hp hr) a after y);
      }

  stage_laid : (box other : Box) → AtStage (laid box) other → other ≡ box
  stage_laid box other (inl e) = cc
  stage_laid box other (inr e) = cc

  stage_sealed : (box other : Box) → AtStage (sealed box) other → other ≡ box
  stage_sealed box other (inl e) = cc
  stage_sealed box other (inr e) = cc

  stage_new : (other : Box) → AtStage new other → ⊥
  stage_new other (inl e) = let z : ◌≡◌ {A = ℕ} 0 1 = cc in omega arith
  stage_new other (inr e) = let z : ◌≡◌ {A = ℕ} 0 1 = cc in omega arith

  none_at : {A : Type 0} (xs : List A) → xs ≡ [] → (i : ℕ) (x : A) → At xs i x → ⊥
  none_at xs e i x h = let l = h.0 in let n : length xs ≡ 0 = ap length e in omega arith

  holds : (b : Book C) (stage : Stage) (shelf : Shelf C) → KeptAt kinds b stage shelf → Holds kinds b stage shelf
  holds b new shelf k =
      record {
        fit = λ r bytes h. absurd (none_at b.records k.1 r bytes h);
        single = λ p r P bytes hp hr. absurd (none_at b.patterns k.0 p P hp);
        find = λ box at. absurd (stage_new box at);
      }
  holds b (laid box) shelf k = holds_kept b box shelf k (laid box) (stage_laid box)
  holds b (sealed box) shelf k = holds_kept b box shelf k (sealed box) (stage_sealed box)

  pub always_holds : (events : List (Event C)) (stage : Stage) (shelf : Shelf C) → History kinds events stage shelf → Holds kinds (book events) stage shelf
  always_holds events stage shelf h = holds (book events) stage shelf (history_kept kinds h)
