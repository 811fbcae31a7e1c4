-- What find answers, from where its pattern and record stand and from the reading that was noted.
use Rattle.std.proofs.Common.{◌≡◌, ℕ, ◌<◌, ◌≤◌, Bool, List, [], ◌∷◌, ◌++◌, map, length, count_by, drop, sym, refl, ap, ◌∙◌, subst, subst₂, inl, inr, arith}
use Rattle.std.proofs.lemmas.List.{length-map}
use Rattle.record.specs.declared.index.Entry.{Entry}
use Rattle.table.specs.Table.{Tab, tab}
use Rattle.table.specs.Marks.{picked, noted}
use Rattle.boxes.specs.declared.fault.Cause.TheVariants.{ShortList}
use Rattle.boxes.specs.declared.fault.Fault.{Fault}
use Rattle.boxes.specs.declared.shelf.Spot.{Spot}
use Rattle.boxes.specs.declared.stage.locate.Located.{Located}
use Rattle.boxes.specs.Fault.{fault}
use Rattle.boxes.specs.Check.{Check, Fails, Passes}
use Rattle.boxes.specs.Shelf.{World, pattern_entry, record_entry, pattern_at, record_at}
use Rattle.boxes.specs.Record.{Read, spots}
use Rattle.boxes.specs.Calls.{locate_checks, read_checks, list_check, find_checks, Listed}
use Rattle.boxes.specs.Listing.{spot_at}
use Rattle.std.specs.List.{range_with_len}
use Rattle.boxes.proofs.Noting.{count_places}
use Rattle.boxes.specs.Locate.{LocatedAs, ReadOnce}

fails_first : (xs ys : List Check) (f : Fault) → Fails xs f → Fails (xs ++ ys) f
fails_first [] ys f h = absurd h
fails_first (x ∷ xs) ys f (inl h) = inl h
fails_first (x ∷ xs) ys f (inr h) = inr (h.0, fails_first xs ys f h.1)

fails_then : (xs ys : List Check) (f : Fault) → Passes xs → Fails ys f → Fails (xs ++ ys) f
fails_then [] ys f p h = h
fails_then (x ∷ xs) ys f p h = inr (p.0, fails_then xs ys f p.1 h)

passes_both : (xs ys : List Check) → Passes xs → Passes ys → Passes (xs ++ ys)
passes_both [] ys p q = q
passes_both (x ∷ xs) ys p q = (p.0, passes_both xs ys p.1 q)

-- the same box and shelf under another name
located_there : {C : Type 0} {v w : World C} {p r m : ℕ} {l : Located C} → v ≡ w → LocatedAs v p r m l → LocatedAs w p r m l
located_there {p = p} {r = r} {m = m} {l = l} e = subst (λ w. LocatedAs w p r m l) e

module _ {C : Type 0} (kinds : C → ℕ → Bool) (w : World C) (p r m index scratch : ℕ) (out : List Spot) {v : World C} (is : v ≡ w) {loc : Located C} (found : LocatedAs v p r m loc) where
  l : LocatedAs w p r m loc
  l = located_there is found

  abbrev P : Tab C
  P = tab loc.pattern

  abbrev bytes : List ℕ
  bytes = loc.bytes.now

  -- the entries are those of the numbers asked for
  there : (Q : Tab C → List ℕ → Type 0) → Q P bytes → Q (pattern_at w.shelf (pattern_entry w.shelf p)) (record_at w.shelf (record_entry w.shelf r))
  there Q = subst₂ Q l.pattern_is l.bytes_is

  abbrev rest : Tab C → List ℕ → List Check
  rest T b = read_checks kinds T b index scratch ++ list_check kinds T b m out ∷ []

  -- the checks after those, of the pattern and the record asked for
  abbrev asked : List Check
  asked = rest (pattern_at w.shelf (pattern_entry w.shelf p)) (record_at w.shelf (record_entry w.shelf r))

  pub unread : (f : Fault) → Fails (read_checks kinds P bytes index scratch) f → Fails (find_checks kinds w p r m index scratch out) f
  unread f h =
      fails_then (locate_checks w p r m) asked f l.passes (there (λ T b. Fails (rest T b) f) (fails_first (read_checks kinds P bytes index scratch) (list_check kinds P bytes m out ∷ []) f h))

  module _ {list : List Entry} {sets : List ℕ} {top count : ℕ} (h : ReadOnce kinds P bytes index scratch list sets top) (c : count ≡ count_by (noted sets m) (range_with_len 1 top)) where
    counted : (x : Read kinds P bytes) → count ≡ length (spots m x)
    counted x = c ∙ count_places (noted sets m) top ∙ (sym (length-map (picked (noted sets m) 0 top) (spot_at list)) ∙ ap length (h.lists m x))

    reading : Read kinds P bytes
    reading = h.passes.1.1.1.0

    pub too_short : length out < count → Fails (find_checks kinds w p r m index scratch out) (fault ShortList count)
    too_short g =
        fails_then (locate_checks w p r m) asked (fault ShortList count) l.passes
        (there (λ T b. Fails (rest T b) (fault ShortList count))
        (fails_then (read_checks kinds P bytes index scratch) (list_check kinds P bytes m out ∷ []) (fault ShortList count) h.passes (inl (count, (reading, counted reading, g), refl))))

    pub passed : count ≤ length out → Passes (find_checks kinds w p r m index scratch out)
    passed g =
        passes_both (locate_checks w p r m) asked l.passes
        (there (λ T b. Passes (rest T b))
        (passes_both (read_checks kinds P bytes index scratch) (list_check kinds P bytes m out ∷ []) h.passes (λ x. let e = counted x in omega arith, tt)))

    pub listed : (after : List Spot) → after ≡ map (spot_at list) (picked (noted sets m) 0 top) ++ drop count out
        → Listed kinds (pattern_at w.shelf (pattern_entry w.shelf p)) (record_at w.shelf (record_entry w.shelf r)) m out count after
    listed after e =
        there (λ T b. Listed kinds T b m out count after)
        (record { reading = reading; count = counted reading; list = e ∙ ap (λ xs. xs ++ drop count out) (h.lists m reading) })
