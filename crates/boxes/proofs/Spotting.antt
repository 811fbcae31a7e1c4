-- The nodes that a reading marks, by the places of an index and by the record's value.
use Rattle.std.proofs.Common.{◌≡◌, ℕ, zero, suc, ◌+◌, ◌-◌, ◌<◌, ◌≤◌, Bool, true, false, List, [], ◌∷◌, ◌++◌, map, length, get_or, take as taken, Some, None, Option, sym, refl, ap, ◌∙◌, ap₂, zero-add, arith, get_or-take}
use Rattle.std.proofs.lemmas.List.{map-append}
use Rattle.std.proofs.lemmas.Option.{get_or_from_slice_get}
use Rattle.record.proofs.Verdict.{one_verdict}
use Rattle.boxes.proofs.Filing.{whole_of}
use Rattle.std.specs.List.{slice_get}
use Rattle.record.specs.declared.run.Node.{Node}
use Rattle.record.specs.declared.index.Entry.{Entry}
use Rattle.record.specs.Nodes.{Nodes, nil, node, count}
use Rattle.record.specs.Run.{run_at}
use Rattle.record.specs.Index.{span, place, entries, seen, lowered, shown, IndexedAs}
use Rattle.record.proofs.Entries.{own, Stands}
use Rattle.record.proofs.Indexing.{index_holds, stand}
use Rattle.table.specs.declared.rule.Rule.{Rule}
use Rattle.table.specs.Reading.{Reading, stop, skip, take, Single}
use Rattle.table.specs.Table.{Tab}
use Rattle.table.specs.Marks.{carries, put, marked, picked, noted, Listed}
use Rattle.boxes.specs.Record.{Read, spotted, spots}
use Rattle.boxes.specs.Listing.{blank, spot_of, spot_at}

-- the node at a place
spot_there : (list : List Entry) (j p : ℕ) (e : Entry) → p ≡ suc j → slice_get list j ≡ Some e → spot_at list p ≡ spot_of e
spot_there list j p e q h = let d : p - 1 ≡ j = omega arith in ap (λ i. spot_of (get_or list i blank)) d ∙ ap spot_of (get_or_from_slice_get list j e blank h)

map_put : {X Y : Type 0} (f : X → Y) (b : Bool) (x : X) (xs : List X) → map f (put b x xs) ≡ put b (f x) (map f xs)
map_put f true x xs = refl
map_put f false x xs = refl

module _ {C : Type 0} (rules : List (Rule C)) (m : ℕ) (list : List Entry) (all_seen : (k : ℕ) (e : Entry) → slice_get list k ≡ Some e → seen list (suc k) ≡ Some e.node) where
  -- one step of the listing
  abbrev turn : ℕ → ℕ → Reading → Reading → Option Node → List ℕ
  turn p r ρ σ None = []
  turn p r ρ σ (Some n) = put (carries rules r m) p (marked rules m (seen list) n.inside ρ ++ marked rules m (seen list) n.after σ)

  turned : (p r : ℕ) (ρ σ : Reading) (o : Option Node) → seen list p ≡ o → marked rules m (seen list) p (take r ρ σ) ≡ turn p r ρ σ o
  turned p r ρ σ o e = ap (turn p r ρ σ) e

  pub spots_are : (n : Nodes) (base o : ℕ) (ρ : Reading) → Stands list base o n → map (spot_at list) (marked rules m (seen list) (place base n) ρ) ≡ spotted rules m o n ρ
  spots_are n base o stop s = refl
  spots_are n base o (skip r ρ) s = spots_are n base o ρ s
  spots_are nil base o (take r ρ σ) s = ap (map (spot_at list)) (turned 0 r ρ σ None refl)
  spots_are (node k t i a) base o (take r ρ σ) s =
      let e : Entry = own base o k t i a in
      let p : ℕ = place base (node k t i a) in
      let q : p ≡ suc (base + count a + count i) = omega arith in
      let seen_is : seen list p ≡ Some e.node = ap (seen list) q ∙ all_seen (base + count a + count i) e s.2 in
      let x = spots_are i (base + count a) (o + 8 + length t) ρ s.1 in
      let y = spots_are a base (o + span t i) σ s.0 in
      ap (map (spot_at list)) (turned p r ρ σ (Some e.node) seen_is)
      ∙ (map_put (spot_at list) (carries rules r m) p _
      ∙ (λ j. put (carries rules r m) (spot_there list (base + count a + count i) p e q s.2 j) ((map-append (spot_at list) (marked rules m (seen list) (place (base + count a) i) ρ) (marked rules m (seen list) (place base a) σ) ∙ ap₂ ◌++◌ x y) j)))

-- a function of the places picked matters only there
map_picked : {Y : Type 0} (f g : ℕ → Y) (test : ℕ → Bool) (s : ℕ) → ((p : ℕ) → 0 < p → p ≤ s → f p ≡ g p) → map f (picked test 0 s) ≡ map g (picked test 0 s)
map_picked f g test zero h = refl
map_picked f g test (suc s) h = go (test (0 + suc s)) (map_picked f g test s (λ p l k. h p l (omega arith)))
  where
    go : (b : Bool) → map f (picked test 0 s) ≡ map g (picked test 0 s) → map f (put b (0 + suc s) (picked test 0 s)) ≡ map g (put b (0 + suc s) (picked test 0 s))
    go true e = ap₂ (λ y ys. y ∷ ys) (h (0 + suc s) (omega arith) (omega arith)) e
    go false e = e

place_whole : (n : Nodes) → place 0 n ≡ count n
place_whole nil = refl
place_whole (node k t i a) = zero-add (count (node k t i a))

module _ {C : Type 0} (kinds : C → ℕ → Bool) (P : Tab C) {bytes : List ℕ} {list : List Entry} {top : ℕ} (x : IndexedAs bytes list top) where
  low : lowered list top ≡ top
  low = let n = x.count_is in let m = x.is.number in let r = x.room in omega arith

  shown_is : shown list top ≡ seen (entries 0 0 x.is.nodes)
  shown_is = ap (λ k. seen (taken k list)) low ∙ ap seen x.filled

  -- the places noted are those of the marked nodes
  pub noted_spots : (sets : List ℕ) → Listed kinds P (shown list top) (lowered list top) sets → Single kinds P (run_at (shown list top) (lowered list top))
      → (m : ℕ) (r : Read kinds P bytes) → map (spot_at list) (picked (noted sets m) 0 top) ≡ spots m r
  noted_spots sets l one m r =
      let n : Nodes = x.is.nodes in
      let es : List Entry = entries 0 0 n in
      let ρ : Reading = one.whole.reading in
      let same : (p : ℕ) → 0 < p → p ≤ top → spot_at list p ≡ spot_at es p =
      λ p g h. sym (ap spot_of (get_or-take top list (p - 1) blank (omega arith))) ∙ ap (λ xs. spot_at xs p) x.filled in
      map_picked (spot_at list) (spot_at es) (noted sets m) top same
      ∙ (ap (λ k. map (spot_at es) (picked (noted sets m) 0 k)) (sym low)
      ∙ (ap (map (spot_at es)) (l m one)
      ∙ (ap₂ (λ s k. map (spot_at es) (marked P.rules m s k ρ)) shown_is (low ∙ (x.count_is ∙ sym (place_whole n)))
      ∙ (spots_are P.rules m es (index_holds.indexed n).all_seen n 0 0 ρ (stand n)
      ∙ ap₂ (λ k σ. spotted P.rules m 0 k σ) (one_verdict.one_value bytes x.is r.is) (one.alone (whole_of kinds P x r)).1))))
