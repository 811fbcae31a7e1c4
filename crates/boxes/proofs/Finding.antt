-- Find on box and shelf answers as find by the book.
use Rattle.std.proofs.Common.{◌≡◌, ℕ, ◌+◌, ◌≤◌, Bool, ◌⊎◌, List, [], ◌∷◌, ◌++◌, length, Ok, Err, Result, sym, ap, ◌∙◌, subst, subst₂, inl, inr, arith}
use Rattle.std.specs.List.{flat_map}
use Rattle.boxes.specs.Check.{Check, when, unless, Fails, Passes, each}
use Rattle.boxes.specs.Fault.{fault}
use Rattle.table.specs.declared.fault.Role.TheVariants.{Pattern}
use Rattle.boxes.specs.declared.fault.Fault.{Fault}
use Rattle.boxes.specs.declared.fault.Cause.TheVariants.{NoReading, TwoReadings}
use Rattle.boxes.specs.declared.shelf.Spot.{Spot}
use Rattle.boxes.specs.Record.{Read, Alike, Twice}
use Rattle.boxes.specs.Calls.{buffers_checks, known_checks, entry_checks, lengths_check, table_check, record_check, Listed, list_check, Finds}
use Rattle.table.specs.Table.{Tab, At}
use Rattle.boxes.specs.Shelf.{Shelf, Box, part, pattern_entry, record_entry, pattern_at, record_at}
use Rattle.boxes.specs.Promise.{book_pattern, book_record, FindsByBook}
use Rattle.boxes.specs.declared.shelf.PatternEntry.{PatternEntry}
use Rattle.boxes.specs.declared.shelf.RecordEntry.{RecordEntry}
use Rattle.boxes.specs.Book.{Book}
use Rattle.boxes.proofs.Parts.{at_read, used_count, part_used, get_or_used, length_entries, placed}
use Rattle.boxes.proofs.Single.{single}
use Rattle.boxes.proofs.Lawful.{table_lawful, record_lawful}
use Rattle.boxes.proofs.Kept.{Kept, rules_of, itself, pattern_written, record_written}

-- a check that cannot fail is left out; one that stays is carried over
left_out : {A P B : Type 0} → (A → ⊥) → A ⊎ (P × B) → B
left_out n (inl a) = absurd (n a)
left_out n (inr x) = x.1

carried : {A A' P P' B B' : Type 0} → (A → A') → (P → P') → (P → B → B') → A ⊎ (P × B) → A' ⊎ (P' × B')
carried f g h (inl a) = inl (f a)
carried f g h (inr x) = inr (g x.0, h x.0 x.1)

module _ {C : Type 0} (kinds : C → ℕ → Bool) (b : Book C) (box : Box) (shelf : Shelf C) (k : Kept kinds b box shelf) where
  pub patterns_count : length b.patterns ≡ box.patterns
  patterns_count = sym (length_entries rules_of pattern_written (length k.F.rules) b.patterns) ∙ used_count box.patterns shelf.patterns _ k.patterns

  pub records_count : length b.records ≡ box.records
  records_count = sym (length_entries itself record_written 0 b.records) ∙ used_count box.records shelf.records _ k.records

  -- the entry and the rules of a pattern of the book
  pub pattern_found : (p : ℕ) (P : Tab C) → At b.patterns p P
      → (pattern_at shelf (pattern_entry shelf p) ≡ P) × ((pattern_entry shelf p).first + (pattern_entry shelf p).count ≤ box.rules)
  pattern_found p P h =
      let all = k.F.rules ++ flat_map rules_of b.patterns in
      let q = placed rules_of pattern_written k.F.rules b.patterns p P h in
      let e : pattern_entry shelf p ≡ pattern_written q.first P = get_or_used box.patterns shelf.patterns _ k.patterns p _ _ q.entry in
      let n : length all ≡ box.rules = used_count box.rules shelf.rules all k.rules in
      let w : q.first + length P.rules ≤ box.rules = subst (λ (j : ℕ). q.first + length P.rules ≤ j) n q.within in
      let r : part q.first (length P.rules) shelf.rules ≡ P.rules =
      part_used box.rules shelf.rules all k.rules q.first (length P.rules) w ∙ q.content in (
        ap (pattern_at shelf) e ∙ (λ i. record { starts = P.starts; finals = P.finals; rules = r i }),
        subst (λ (x : PatternEntry). x.first + x.count ≤ box.rules) (sym e) w,
      )

  pub record_found : (r : ℕ) (bytes : List ℕ) → At b.records r bytes
      → (record_at shelf (record_entry shelf r) ≡ bytes) × ((record_entry shelf r).first + (record_entry shelf r).count ≤ box.bytes)
  record_found r bytes h =
      let all = flat_map itself b.records in
      let q = placed itself record_written [] b.records r bytes h in
      let e : record_entry shelf r ≡ record_written q.first bytes = get_or_used box.records shelf.records _ k.records r _ _ q.entry in
      let n : length all ≡ box.bytes = used_count box.bytes shelf.bytes all k.bytes in
      let w : q.first + length bytes ≤ box.bytes = subst (λ (j : ℕ). q.first + length bytes ≤ j) n q.within in (
        ap (record_at shelf) e ∙ (part_used box.bytes shelf.bytes all k.bytes q.first (length bytes) w ∙ q.content),
        subst (λ (x : RecordEntry). x.first + x.count ≤ box.bytes) (sym e) w,
      )

  lengths_hold : (f : Fault) → (lengths_check box shelf).fails f → ⊥
  lengths_hold f (inl a) = let l = a.0 in let u = k.rules.room in omega arith
  lengths_hold f (inr x) =
      elim x.1 [
        | inl a ↦ let l = a.0 in let u = k.patterns.room in omega arith
        | inr y ↦ elim y.1 [
          | inl a ↦ let l = a.0 in let u = k.records.room in omega arith
          | inr z ↦ elim z.1 [
            | inl a ↦ let l = a.0 in let u = k.bytes.room in omega arith
            | inr v ↦ v.1
          ]
        ]
      ]

  pub single_kept : (p r : ℕ) (P : Tab C) (bytes : List ℕ) → At b.patterns p P → At b.records r bytes → (x y : Read kinds P bytes) → Alike x y
  single_kept p r P bytes hp hr = single kinds k.F P bytes (k.never p P hp) (k.fits r bytes hr)

  module _ (p r m index scratch : ℕ) (out : List Spot) where
    -- find's checks from 8 on
    abbrev rest_checks : Tab C → List ℕ → List Check
    rest_checks P bytes =
        each (buffers_checks Pattern index scratch)
        ∷ record_check bytes
        ∷ table_check Pattern P
        ∷ unless (Read kinds P bytes) (fault NoReading 0)
        ∷ when (Twice kinds P bytes) (fault TwoReadings 0)
        ∷ list_check kinds P bytes m out
        ∷ []

    -- those of them that can fail
    abbrev book_rest : Tab C → List ℕ → List Check
    book_rest P bytes =
        each (buffers_checks Pattern index scratch)
        ∷ unless (Read kinds P bytes) (fault NoReading 0)
        ∷ list_check kinds P bytes m out
        ∷ []

    rest_fails : (P : Tab C) (bytes : List ℕ) → At b.patterns p P → At b.records r bytes → (f : Fault)
        → Fails (rest_checks P bytes) f → Fails (book_rest P bytes) f
    rest_fails P bytes hp hr f x =
        let fit = k.fits r bytes hr in
        carried (λ a. a) (λ a. a) (λ _ y.
        carried (λ a. a) (λ a. a) (λ _ z. left_out (λ t. t.0.2 (single_kept p r P bytes hp hr t.0.0 t.0.1)) z)
        (left_out (λ a. (table_lawful (λ g. g) Pattern P).apart f a (k.sound p P hp))
        (left_out (λ a. (record_lawful (λ g. g) bytes).apart f a fit.is) y))) x

    rest_passes : (P : Tab C) (bytes : List ℕ) → Passes (rest_checks P bytes) → Passes (book_rest P bytes)
    rest_passes P bytes x = (x.0, (x.1.1.1.0, (x.1.1.1.1.1.0, tt)))

    abbrev P₀ : Tab C
    P₀ = book_pattern b p

    abbrev bytes₀ : List ℕ
    bytes₀ = book_record b r

    at_pattern : (box.patterns ≤ p → ⊥) → At b.patterns p P₀
    at_pattern n = at_read b.patterns p _ (let e = patterns_count in omega arith)

    at_record : (box.records ≤ r → ⊥) → At b.records r bytes₀
    at_record n = at_read b.records r _ (let e = records_count in omega arith)

    -- the book has as many patterns and records as the box
    known_fails : (f : Fault) → Fails (known_checks box.patterns box.records p r m) f → Fails (known_checks (length b.patterns) (length b.records) p r m) f
    known_fails f = subst₂ (λ (i j : ℕ). Fails (known_checks i j p r m) f) (sym patterns_count) (sym records_count)

    known_passes : Passes (known_checks box.patterns box.records p r m) → Passes (known_checks (length b.patterns) (length b.records) p r m)
    known_passes = subst₂ (λ (i j : ℕ). Passes (known_checks i j p r m)) (sym patterns_count) (sym records_count)

    entries_hold : (e : PatternEntry) (d : RecordEntry) (f : Fault) → e.first + e.count ≤ box.rules → d.first + d.count ≤ box.bytes
        → Fails (entry_checks box e d) f → ⊥
    entries_hold e d f h g (inl a) = let l = a.0 in omega arith
    entries_hold e d f h g (inr x) = elim x.1 [ inl a ↦ let l = a.0 in omega arith | inr v ↦ v.1 ]

    pub by_book : (a : Result ℕ Fault) (after : List Spot) → Finds kinds (record { box = box; shelf = shelf }) p r m index scratch out a after
        → FindsByBook kinds b p r m index scratch out a after
    by_book (Err f) after x = (
      carried (known_fails f) known_passes (λ n y.
          let hp = at_pattern n.0 in
          let hr = at_record n.1.0 in
          let fp = pattern_found p P₀ hp in
          let fr = record_found r bytes₀ hr in
          rest_fails P₀ bytes₀ hp hr f
          (subst₂ (λ (P : Tab C) (bytes : List ℕ). Fails (rest_checks P bytes) f) fp.0 fr.0
          (left_out (entries_hold (pattern_entry shelf p) (record_entry shelf r) f fp.1 fr.1) y)))
          (left_out (lengths_hold f) x.0),
      x.1,
    )
    by_book (Ok n) after x =
        let c = x.0.1 in
        let fp = pattern_found p P₀ (at_pattern c.0.0) in
        let fr = record_found r bytes₀ (at_record c.0.1.0) in (
          (known_passes c.0, subst₂ (λ (P : Tab C) (bytes : List ℕ). Passes (book_rest P bytes)) fp.0 fr.0 (rest_passes _ _ c.1.1)),
          subst₂ (λ (P : Tab C) (bytes : List ℕ). Listed kinds P bytes m out n after) fp.0 fr.0 x.1,
        )
