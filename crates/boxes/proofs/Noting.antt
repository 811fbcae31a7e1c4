-- Places at which a mark is noted, counted and written from the lowest up.
use Rattle.std.proofs.Common.{◌≡◌, ℕ, zero, suc, ◌+◌, ◌-◌, ◌<◌, ◌≤◌, Bool, true, false, List, [], ◌∷◌, ◌++◌, map, length, cond, sum_by, count_by, get_or, take, drop, set, sym, refl, ap, ◌∙◌, inl, inr, add-zero, zero-add, add-one, arith, length-take-le}
use Rattle.std.proofs.lemmas.List.{set_at, take_more, append_assoc}
use Rattle.std.specs.List.{range_with_len}
use Rattle.std.proofs.lemmas.List.Sums.{sum_by-append}
use Rattle.std.proofs.lemmas.Bool.{cases_lt}
use Rattle.record.specs.declared.index.Entry.{Entry}
use Rattle.table.specs.Marks.{put, picked}
use Rattle.boxes.specs.declared.shelf.Spot.{Spot}
use Rattle.boxes.specs.Listing.{spot_at, Written}

range_more : (a n : ℕ) → range_with_len a (suc n) ≡ range_with_len a n ++ (a + n) ∷ []
range_more a zero = ap (λ k. k ∷ []) (sym (add-zero a))
range_more a (suc n) =
    let e : (a + 1) + n ≡ a + suc n = omega arith in ap (λ ks. a ∷ ks) (range_more (a + 1) n ∙ ap (λ k. range_with_len (a + 1) n ++ k ∷ []) e)

sum_more : (g : ℕ → ℕ) (a n : ℕ) → sum_by g (range_with_len a (suc n)) ≡ sum_by g (range_with_len a n) + g (a + n)
sum_more g a n =
    ap (sum_by g) (range_more a n) ∙ (sum_by-append g (range_with_len a n) ((a + n) ∷ []) ∙ ap (λ m. sum_by g (range_with_len a n) + m) (zero-add (g (a + n))))

length_put : {L : Type 0} (b : Bool) (x : L) (xs : List L) → length xs + cond b 1 0 ≡ length (put b x xs)
length_put true x xs = omega arith
length_put false x xs = omega arith

-- as many places pass a test as are picked
pub count_places : (test : ℕ → Bool) (n : ℕ) → count_by test (range_with_len 1 n) ≡ length (picked test 0 n)
count_places test zero = refl
count_places test (suc n) =
    let e : 1 + n ≡ 0 + suc n = omega arith in
    sum_more (λ x. cond (test x) 1 0) 1 n ∙ ((λ i. count_places test n i + cond (test (e i)) 1 0) ∙ length_put (test (0 + suc n)) (0 + suc n) (picked test 0 n))

module _ (test : ℕ → Bool) where
  -- one more place
  pub picked_next : (p : ℕ) → picked test 0 (p + 1) ≡ put (test (p + 1)) (p + 1) (picked test 0 p)
  picked_next p = rw (add-one, zero-add) refl

  next_true : (p : ℕ) → test (p + 1) ≡ true → picked test 0 (p + 1) ≡ (p + 1) ∷ picked test 0 p
  next_true p e = picked_next p ∙ ap (λ b. put b (p + 1) (picked test 0 p)) e

  next_false : (p : ℕ) → test (p + 1) ≡ false → picked test 0 (p + 1) ≡ picked test 0 p
  next_false p e = picked_next p ∙ ap (λ b. put b (p + 1) (picked test 0 p)) e

  -- more places have no fewer
  pub grows : (p q : ℕ) → p ≤ q → length (picked test 0 p) ≤ length (picked test 0 q)
  grows p zero h = let e : p ≡ 0 = omega arith in rw e (omega arith)
  grows p (suc q) h = go (test (0 + suc q)) refl (λ l. grows p q l)
    where
      step : (b : Bool) → test (0 + suc q) ≡ b → length (picked test 0 q) ≤ length (picked test 0 (suc q))
      step true e = let l = ap (λ b. length (put b (0 + suc q) (picked test 0 q))) e in omega arith
      step false e = let l = ap (λ b. length (put b (0 + suc q) (picked test 0 q))) e in omega arith

      go : (b : Bool) → test (0 + suc q) ≡ b → (p ≤ q → length (picked test 0 p) ≤ length (picked test 0 q)) → length (picked test 0 p) ≤ length (picked test 0 (suc q))
      go b e ih = elim (cases_lt q p) [ inl l ↦ let x : p ≡ suc q = omega arith in rw x (omega arith) | inr l ↦ let a = ih l in let s = step b e in omega arith ]

  module _ (list : List Entry) (count : ℕ) (old : List Spot) where
    -- a place at which it is not noted
    pub written_same : (p free : ℕ) (new : List Spot) → test (p + 1) ≡ false → Written list test p count free old new → Written list test (p + 1) count free old new
    written_same p free new t w =
        let e = next_false p t in
        record {
          left = ap (λ ps. free + length ps) e ∙ w.left;
          is = w.is ∙ ap (λ ps. take free old ++ (map (spot_at list) ps ++ drop count old)) (sym e);
        }

    before : (f : ℕ) (x d : Spot) (rest : List Spot) → f < length old → set (take (f + 1) old ++ rest) f x ≡ take f old ++ (x ∷ rest)
    before f x d rest l =
        ap (λ front. set (front ++ rest) f x) (take_more old f d l)
        ∙ (ap (λ xs. set xs f x) (append_assoc (take f old) (get_or old f d ∷ []) rest)
        ∙ set_at (take f old) (get_or old f d) rest x f (length-take-le f old (omega arith)))

    -- a place at which it is: its node goes before those already there
    pub written_more : (p free : ℕ) (new : List Spot) → count ≤ length old → 1 ≤ free → test (p + 1) ≡ true → Written list test p count free old new
        → Written list test (p + 1) count (free - 1) old (set new (free - 1) (spot_at list (p + 1)))
    written_more p free new h g t w =
        let e = next_true p t in
        let l = ap length e in
        let left = w.left in
        let up : (free - 1) + 1 ≡ free = omega arith in
        let rest : List Spot = map (spot_at list) (picked test 0 p) ++ drop count old in
        record {
          left = omega arith;
          is =
              ap (λ xs. set xs (free - 1) (spot_at list (p + 1))) (w.is ∙ ap (λ n. take n old ++ rest) (sym up))
              ∙ (before (free - 1) (spot_at list (p + 1)) (spot_at list (p + 1)) rest (omega arith)
              ∙ ap (λ ps. take (free - 1) old ++ (map (spot_at list) ps ++ drop count old)) (sym e));
        }

    -- a place at which it is noted is free
    pub some_free : (p q free : ℕ) (new : List Spot) → p + 1 ≤ q → count ≡ length (picked test 0 q) → test (p + 1) ≡ true → Written list test p count free old new → 1 ≤ free
    some_free p q free new h c t w =
        let e = ap length (next_true p t) in
        let m = grows (p + 1) q h in
        let left = w.left in
        omega arith

    pub written_all : (q free : ℕ) (new : List Spot) → count ≡ length (picked test 0 q) → Written list test q count free old new
        → new ≡ map (spot_at list) (picked test 0 q) ++ drop count old
    written_all q free new c w =
        let left = w.left in
        let z : free ≡ 0 = omega arith in
        w.is ∙ ap (λ n. take n old ++ (map (spot_at list) (picked test 0 q) ++ drop count old)) z
