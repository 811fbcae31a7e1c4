-- What ties the book to box and shelf, kept by every call.
use Rattle.std.proofs.Common.{◌≡◌, ℕ, ◌+◌, ◌<◌, ◌≤◌, Bool, ◌⊎◌, List, [], ◌∷◌, ◌++◌, length, take, Ok, Err, sym, refl, ap, ◌∙◌, subst, subst₂, inl, inr, append-nil, zero-add, arith, length-append}
use mathlib.Core.Option.{some}
use lib.Seq.{take-append_seam}
use Rattle.std.specs.List.{flat_map}
use Rattle.std.proofs.lemmas.List.{flat_map_more}
use Rattle.table.specs.declared.rule.Rule.{Rule}
use Rattle.boxes.specs.Check.{each}
use Rattle.boxes.specs.Limits.{max_patterns, max_records}
use Rattle.table.specs.declared.fault.Role.TheVariants.{Pattern}
use Rattle.boxes.specs.Record.{Read}
use Rattle.boxes.specs.Calls.{table_check, box_laid, shelf_laid, admitted, filed}
use Rattle.table.specs.Table.{Tab, At}
use Rattle.table.specs.Reading.{Twofold}
use Rattle.boxes.specs.Shelf.{Shelf, Box, World, written, form_of}
use Rattle.boxes.specs.declared.shelf.PatternEntry.{PatternEntry}
use Rattle.boxes.specs.declared.shelf.RecordEntry.{RecordEntry}
use Rattle.boxes.specs.Book.{Event, Book, book, Stage, new, laid, sealed, History}
use Rattle.boxes.specs.Book.History.{begins, lays, admits, files, finds, finds_sealed, seals}
use Rattle.boxes.proofs.Parts.{at_push, Used, used_none, used_count, used_more, part_used, entries, entries_push}

abbrev pub rules_of : {C : Type 0} → Tab C → List (Rule C)
rules_of T = T.rules

abbrev pub itself : List ℕ → List ℕ
itself bytes = bytes

abbrev pub pattern_written : {C : Type 0} → ℕ → Tab C → PatternEntry
pattern_written n P = record { first = n; count = length P.rules; starts = P.starts; finals = P.finals }

abbrev pub record_written : ℕ → List ℕ → RecordEntry
record_written n bytes = record { first = n; count = length bytes }

module _ {C : Type 0} (kinds : C → ℕ → Bool) where
  pub record Kept (b : Book C) (box : Box) (shelf : Shelf C) : Type 0 where
    pub F : Tab C
    pub laid_form : b.form ≡ some F
    pub form_rules : box.form_rules ≡ length F.rules
    pub starts : box.starts ≡ F.starts
    pub finals : box.finals ≡ F.finals
    -- the used part of each list
    pub rules : Used box.rules shelf.rules (F.rules ++ flat_map rules_of b.patterns)
    pub patterns : Used box.patterns shelf.patterns (entries rules_of pattern_written (length F.rules) b.patterns)
    pub records : Used box.records shelf.records (entries itself record_written 0 b.records)
    pub bytes : Used box.bytes shelf.bytes (flat_map itself b.records)
    -- what was checked
    pub sound : (i : ℕ) (P : Tab C) → At b.patterns i P → (table_check Pattern P).passes
    pub never : (i : ℕ) (P : Tab C) → At b.patterns i P → Twofold kinds F P → ⊥
    pub fits : (i : ℕ) (bytes : List ℕ) → At b.records i bytes → Read kinds F bytes

  -- the form on the shelf is the book's
  pub form_kept : (b : Book C) (box : Box) (shelf : Shelf C) (k : Kept b box shelf) → form_of box shelf ≡ k.F
  form_kept b box shelf k =
      let all = k.F.rules ++ flat_map rules_of b.patterns in
      let n : length all ≡ box.rules = used_count box.rules shelf.rules all k.rules in
      let l : length k.F.rules ≤ box.rules = omega (arith, n, length-append k.F.rules (flat_map rules_of b.patterns)) in
      let e : take box.form_rules shelf.rules ≡ k.F.rules =
      ap (λ (j : ℕ). take j shelf.rules) k.form_rules
      ∙ (part_used box.rules shelf.rules all k.rules 0 (length k.F.rules) (omega arith)
      ∙ take-append_seam k.F.rules (flat_map rules_of b.patterns)) in
      λ i. record { starts = k.starts i; finals = k.finals i; rules = e i }

  kept_laid : (F : Tab C) (shelf : Shelf C) → (length shelf.rules < length F.rules → ⊥)
      → Kept (record { form = some F; patterns = []; records = [] }) (box_laid F shelf) (shelf_laid F shelf)
  kept_laid F shelf room =
      record {
        F = F;
        laid_form = refl;
        form_rules = refl;
        starts = refl;
        finals = refl;
        rules =
            subst₂ (λ (n : ℕ) (ys : List (Rule C)). Used n (written 0 F.rules shelf.rules) ys) (zero-add (length F.rules)) (sym (append-nil F.rules))
            (used_more 0 shelf.rules [] F.rules (used_none shelf.rules) (omega arith));
        patterns = used_none shelf.patterns;
        records = used_none shelf.records;
        bytes = used_none shelf.bytes;
        sound = λ i P h. absurd (let l = h.0 in omega arith);
        never = λ i P h. absurd (let l = h.0 in omega arith);
        fits = λ i bytes h. absurd (let l = h.0 in omega arith);
      }

  -- a fact of each element, and of one more
  with_more : {A : Type 0} (Q : A → Type 0) (xs : List A) (x : A) → ((i : ℕ) (y : A) → At xs i y → Q y) → Q x → (i : ℕ) (y : A) → At (xs ++ x ∷ []) i y → Q y
  with_more Q xs x each here i y h = elim (at_push xs x i y h) [ inl a ↦ each i y a | inr e ↦ subst Q e here ]

  kept_admitted : (b : Book C) (w : World C) (k : Kept b w.box w.shelf) (P : Tab C)
      → (length w.shelf.rules < w.box.rules + length P.rules → ⊥)
      → ((max_patterns ≤ w.box.patterns) ⊎ (length w.shelf.patterns < w.box.patterns + 1) → ⊥)
      → (table_check Pattern P).passes
      → (Twofold kinds k.F P → ⊥)
      → Kept (record b { patterns = b.patterns ++ P ∷ [] }) (admitted w P 0 0).box (admitted w P 0 0).shelf
  kept_admitted b w k P room places good never =
      let all = k.F.rules ++ flat_map rules_of b.patterns in
      let n : length all ≡ w.box.rules = used_count w.box.rules w.shelf.rules all k.rules in
      let one : length w.shelf.patterns < w.box.patterns + 1 → ⊥ = λ l. places (inr l) in
      record {
        F = k.F;
        laid_form = k.laid_form;
        form_rules = k.form_rules;
        starts = k.starts;
        finals = k.finals;
        rules =
            subst (Used (w.box.rules + length P.rules) (written w.box.rules P.rules w.shelf.rules))
            (flat_map_more rules_of k.F.rules b.patterns P)
            (used_more w.box.rules w.shelf.rules all P.rules k.rules (omega arith));
        patterns =
            subst (Used (w.box.patterns + 1) (written w.box.patterns (pattern_written w.box.rules P ∷ []) w.shelf.patterns))
            (ap (λ (j : ℕ). entries rules_of pattern_written (length k.F.rules) b.patterns ++ pattern_written j P ∷ [])
            (sym n ∙ length-append k.F.rules (flat_map rules_of b.patterns))
            ∙ sym (entries_push rules_of pattern_written (length k.F.rules) b.patterns P))
            (used_more w.box.patterns w.shelf.patterns _ (pattern_written w.box.rules P ∷ []) k.patterns (omega arith));
        records = k.records;
        bytes = k.bytes;
        sound = with_more (λ (T : Tab C). (table_check Pattern T).passes) b.patterns P k.sound good;
        never = with_more (λ (T : Tab C). Twofold kinds k.F T → ⊥) b.patterns P k.never never;
        fits = k.fits;
      }

  kept_filed : (b : Book C) (w : World C) (k : Kept b w.box w.shelf) (bytes : List ℕ)
      → ((max_records ≤ w.box.records) ⊎ (length w.shelf.records < w.box.records + 1) → ⊥)
      → (length w.shelf.bytes < w.box.bytes + length bytes → ⊥)
      → Read kinds k.F bytes
      → Kept (record b { records = b.records ++ bytes ∷ [] }) (filed kinds w bytes 0 0).box (filed kinds w bytes 0 0).shelf
  kept_filed b w k bytes places room fit =
      let n : length (flat_map itself b.records) ≡ w.box.bytes = used_count w.box.bytes w.shelf.bytes (flat_map itself b.records) k.bytes in
      let one : length w.shelf.records < w.box.records + 1 → ⊥ = λ l. places (inr l) in
      record {
        F = k.F;
        laid_form = k.laid_form;
        form_rules = k.form_rules;
        starts = k.starts;
        finals = k.finals;
        rules = k.rules;
        patterns = k.patterns;
        records =
            subst (Used (w.box.records + 1) (written w.box.records (record_written w.box.bytes bytes ∷ []) w.shelf.records))
            (ap (λ (j : ℕ). entries itself record_written 0 b.records ++ record_written j bytes ∷ []) (sym n ∙ sym (zero-add (length (flat_map itself b.records))))
            ∙ sym (entries_push itself record_written 0 b.records bytes))
            (used_more w.box.records w.shelf.records _ (record_written w.box.bytes bytes ∷ []) k.records (omega arith));
        bytes =
            subst (Used (w.box.bytes + length bytes) (written w.box.bytes bytes w.shelf.bytes))
            (flat_map_more itself [] b.records bytes)
            (used_more w.box.bytes w.shelf.bytes (flat_map itself b.records) bytes k.bytes (omega arith));
        sound = k.sound;
        never = k.never;
        fits = with_more (λ (x : List ℕ). Read kinds k.F x) b.records bytes k.fits fit;
      }

  -- at each stage
  abbrev pub KeptAt : Book C → Stage → Shelf C → Type 0
  KeptAt b new shelf = (b.patterns ≡ []) × (b.records ≡ [])
  KeptAt b (laid box) shelf = Kept b box shelf
  KeptAt b (sealed box) shelf = Kept b box shelf

  abbrev In : Book C → World C → Type 0
  In b w = Kept b w.box w.shelf

  pub history_kept : {es : List (Event C)} {stage : Stage} {shelf : Shelf C} → History kinds es stage shelf → KeptAt (book es) stage shelf
  history_kept (begins shelf) = (refl, refl)
  history_kept (lays h F (Err f) l) = history_kept h
  history_kept (lays {es = es} {shelf = shelf} h F (Ok box) l) =
      let e = history_kept h in
      let k = kept_laid F shelf l.0.1.0 in
      subst₂ (λ (x : Box) (s : Shelf C). Kept (record (book es) { form = some F }) x s) (sym l.1.0) (sym l.1.1)
      (subst₂ (λ (ps : List (Tab C)) (rs : List (List ℕ)). Kept (record { form = some F; patterns = ps; records = rs }) (box_laid F shelf) (shelf_laid F shelf)) (sym e.0) (sym e.1) k)
  history_kept (admits {es = es} h P sheet helper lines (Err f) after x) = subst (In (book es)) (sym x.1) (history_kept h)
  history_kept (admits {es = es} {box = box} {shelf = shelf} h P sheet helper lines (Ok u) after x) =
      let k = history_kept h in
      let c = x.0 in
      let never : Twofold kinds k.F P → ⊥ = subst (λ (F : Tab C). Twofold kinds F P → ⊥) (form_kept (book es) box shelf k) c.1.1.1.1.1.0 in
      subst (In (record (book es) { patterns = (book es).patterns ++ P ∷ [] })) (sym x.1)
      (kept_admitted (book es) (record { box = box; shelf = shelf }) k P c.1.1.1.1.0.0 c.1.1.1.1.0.1.0 c.1.1.0 never)
  history_kept (files {es = es} h bytes index scratch (Err f) after x) = subst (In (book es)) (sym x.1) (history_kept h)
  history_kept (files {es = es} {box = box} {shelf = shelf} h bytes index scratch (Ok u) after x) =
      let k = history_kept h in
      let c = x.0 in
      let fit : Read kinds k.F bytes = subst (λ (F : Tab C). Read kinds F bytes) (form_kept (book es) box shelf k) c.1.1.1.1.1.0 in
      subst (In (record (book es) { records = (book es).records ++ bytes ∷ [] })) (sym x.1)
      (kept_filed (book es) (record { box = box; shelf = shelf }) k bytes c.1.1.1.1.0.0 c.1.1.1.1.0.1.0 fit)
  history_kept (finds h p r m index scratch out (Err f) after x) = history_kept h
  history_kept (finds h p r m index scratch out (Ok n) after x) = history_kept h
  history_kept (finds_sealed h p r m index scratch out (Err f) after x) = history_kept h
  history_kept (finds_sealed h p r m index scratch out (Ok n) after x) = history_kept h
  history_kept (seals h) = history_kept h
