-- Lists of which a front is used: what is written behind it leaves it alone, and what was laid out in turn is found again.
use Rattle.std.proofs.Common.{◌≡◌, ℕ, zero, suc, ◌+◌, ◌<◌, ◌≤◌, ◌⊎◌, List, [], ◌∷◌, ◌++◌, length, get_or, take, drop, set, sym, refl, ap, ◌∙◌, subst, inl, inr, append_assoc, le_of_suc-le-suc, add-zero, add_assoc, add-one, arith, length-append, length-drop, length-take, length-take-le, get_or-take, take-take, take_at}
use lib.Seq.{set_split, take-append_seam, drop-append_seam}
use Rattle.std.specs.List.{flat_map}
use Rattle.std.proofs.lemmas.List.{drop-take, get_or_default}
use Rattle.std.proofs.lemmas.Bool.{cases_lt}
use Rattle.table.specs.Table.{At}
use Rattle.table.specs.declared.rule.Rule.{Rule}
use Rattle.boxes.specs.declared.shelf.PatternEntry.{PatternEntry}
use Rattle.boxes.specs.declared.shelf.RecordEntry.{RecordEntry}
use Rattle.boxes.specs.Shelf.{Box, World, written, part}

-- an element that is there
pub at_read : {A : Type 0} (xs : List A) (i : ℕ) (d : A) → i < length xs → At xs i (get_or xs i d)
at_read xs i d h = (h, get_or_default xs i (get_or xs i d) d h)

pub at_get_or : {A : Type 0} (xs : List A) (i : ℕ) (x d : A) → At xs i x → get_or xs i d ≡ x
at_get_or xs i x d h = get_or_default xs i d x h.0 ∙ h.1

pub at_push : {A : Type 0} (xs : List A) (x : A) (i : ℕ) (y : A) → At (xs ++ x ∷ []) i y → At xs i y ⊎ (x ≡ y)
at_push [] x zero y h = inr h.1
at_push [] x (suc i) y h = absurd (let l = h.0 in omega arith)
at_push (z ∷ xs) x zero y h = inl (omega arith, h.1)
at_push (z ∷ xs) x (suc i) y h =
    elim (at_push xs x i y (le_of_suc-le-suc h.0, h.1)) [
      | inl a ↦ inl (let l = a.0 in omega arith, a.1)
      | inr e ↦ inr e
    ]

-- the first n elements are in use, and are ys
pub record Used {A : Type 0} (n : ℕ) (xs ys : List A) : Type 0 where
  pub room : n ≤ length xs
  pub front : take n xs ≡ ys

module _ {A : Type 0} where
  pub used_none : (xs : List A) → Used 0 xs []
  used_none xs = record { room = omega arith; front = refl }

  pub used_count : (n : ℕ) (xs ys : List A) → Used n xs ys → length ys ≡ n
  used_count n xs ys u = sym (ap length u.front) ∙ length-take-le n xs u.room

  pub length_written : (n : ℕ) (zs xs : List A) → n + length zs ≤ length xs → length (written n zs xs) ≡ length xs
  length_written n zs xs h = simp (length-append, length-take, length-drop) (omega arith)

  pub used_more : (n : ℕ) (xs ys zs : List A) → Used n xs ys → n + length zs ≤ length xs → Used (n + length zs) (written n zs xs) (ys ++ zs)
  used_more n xs ys zs u h =
      record {
        room = rw (length_written n zs xs h) h;
        front =
            ap (take (n + length zs)) (ap (λ (a : List A). a ++ (zs ++ drop (n + length zs) xs)) u.front ∙ sym (append_assoc ys zs (drop (n + length zs) xs)))
            ∙ take_at (ys ++ zs) (drop (n + length zs) xs) (n + length zs) (length-append ys zs ∙ ap (λ (k : ℕ). k + length zs) (used_count n xs ys u));
      }

  -- a part of what is in use
  pub part_used : (n : ℕ) (xs ys : List A) → Used n xs ys → (first k : ℕ) → first + k ≤ n → part first k xs ≡ part first k ys
  part_used n xs ys u first k h =
      sym (drop-take first k xs)
      ∙ (ap (drop first) (sym (take-take (first + k) n xs h))
      ∙ (drop-take first k (take n xs)
      ∙ ap (part first k) u.front))

  pub get_or_used : (n : ℕ) (xs ys : List A) → Used n xs ys → (i : ℕ) (y d : A) → At ys i y → get_or xs i d ≡ y
  get_or_used n xs ys u i y d h =
      let l : i < n = subst (λ (k : ℕ). i < k) (used_count n xs ys u) h.0 in
      sym (get_or-take n xs i d l) ∙ (ap (λ (zs : List A). get_or zs i d) u.front ∙ at_get_or ys i y d h)

-- things laid out in turn behind one another, with an entry for each
module _ {X A E : Type 0} (f : X → List A) (e : ℕ → X → E) where
  abbrev pub entries : ℕ → List X → List E
  entries n [] = []
  entries n (x ∷ xs) = e n x ∷ entries (n + length (f x)) xs

  pub length_entries : (n : ℕ) (xs : List X) → length (entries n xs) ≡ length xs
  length_entries n [] = refl
  length_entries n (x ∷ xs) = ap suc (length_entries (n + length (f x)) xs)

  pub entries_push : (n : ℕ) (xs : List X) (x : X) → entries n (xs ++ x ∷ []) ≡ entries n xs ++ e (n + length (flat_map f xs)) x ∷ []
  entries_push n [] x = ap (λ (k : ℕ). e k x ∷ []) (sym (add-zero n))
  entries_push n (y ∷ xs) x =
      ap (λ (es : List E). e n y ∷ es)
      (entries_push (n + length (f y)) xs x
      ∙ ap (λ (k : ℕ). entries (n + length (f y)) xs ++ e k x ∷ [])
      (add_assoc n (length (f y)) (length (flat_map f xs)) ∙ ap (λ (k : ℕ). n + k) (sym (length-append (f y) (flat_map f xs)))))

  pub record Placed (all : List A) (es : List E) (k : ℕ) (x : X) : Type 0 where
    pub first : ℕ
    pub entry : At es k (e first x)
    pub within : first + length (f x) ≤ length all
    pub content : part first (length (f x)) all ≡ f x

  placed_first : (front : List A) (x : X) (xs : List X) → Placed (front ++ flat_map f (x ∷ xs)) (entries (length front) (x ∷ xs)) 0 x
  placed_first front x xs =
      record {
        first = length front;
        entry = (omega arith, refl);
        within = simp length-append (omega arith);
        content = ap (take (length (f x))) (drop-append_seam front (f x ++ flat_map f xs)) ∙ take-append_seam (f x) (flat_map f xs);
      }

  pub placed : (front : List A) (xs : List X) (k : ℕ) (x : X) → At xs k x → Placed (front ++ flat_map f xs) (entries (length front) xs) k x
  placed front [] k x h = absurd (let l = h.0 in omega arith)
  placed front (y ∷ xs) zero x h = subst (λ (z : X). Placed (front ++ flat_map f (y ∷ xs)) (entries (length front) (y ∷ xs)) 0 z) h.1 (placed_first front y xs)
  placed front (y ∷ xs) (suc k) x h =
      let q = placed (front ++ f y) xs k x (le_of_suc-le-suc h.0, h.1) in
      let same = append_assoc front (f y) (flat_map f xs) in
      let at : At (entries (length front + length (f y)) xs) k (e q.first x) =
      subst (λ (n : ℕ). At (entries n xs) k (e q.first x)) (length-append front (f y)) q.entry in
      record {
        first = q.first;
        entry = (let l = at.0 in omega arith, at.1);
        within = subst (λ (all : List A). q.first + length (f x) ≤ length all) same q.within;
        content = subst (λ (all : List A). part q.first (length (f x)) all ≡ f x) same q.content;
      }

-- one element written
pub set_written : {A : Type 0} (xs : List A) (i : ℕ) (x : A) → i < length xs → set xs i x ≡ written i (x ∷ []) xs
set_written xs i x h = rw (set_split, add-one)

-- a box on a shelf whose lists are given
pub lists_are : {C : Type 0} {box : Box} {rules rules' : List (Rule C)} {patterns patterns' : List PatternEntry} {records records' : List RecordEntry} {bytes bytes' : List ℕ}
    → rules ≡ rules' → patterns ≡ patterns' → records ≡ records' → bytes ≡ bytes'
    → ◌≡◌ {A = World C}
    (record { box = box; shelf = record { rules = rules; patterns = patterns; records = records; bytes = bytes } })
    (record { box = box; shelf = record { rules = rules'; patterns = patterns'; records = records'; bytes = bytes' } })
lists_are {box = box} p q r s i = record { box = box; shelf = record { rules = p i; patterns = q i; records = r i; bytes = s i } }

-- no refusal for want of room: there is a place
pub room_left : (A : Type 0) (n r : ℕ) → (A ⊎ (n < r + 1) → ⊥) → r < n
room_left A n r h = elim (cases_lt n (r + 1)) [ inl l ↦ absurd (h (inr l)) | inr l ↦ omega arith ]
