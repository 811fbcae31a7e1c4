use Rattle.std.proofs.Common.{◌≡◌, ℕ, ◌+◌, ◌-◌, ◌<◌, ◌≤◌, List, length, take, get_or, get_or-take, length-take-le, set, sym, ap, ◌∙◌, subst, subst₂, arith}
use Rattle.record.specs.declared.index.Entry.{Entry}
use Rattle.table.specs.Marks.{noted}
use Rattle.boxes.specs.declared.shelf.Spot.{Spot}
use Rattle.boxes.specs.Listing.{blank, spot_of, Written}
use Rattle.boxes.proofs.Noting.{written_same, written_more, some_free, written_all, count_places}
use Rattle.boxes.proofs.listing.Notes.write.Goals as goal
use Rattle.boxes.proofs.listing.Notes.write.Goals.{then-has, else-has}

-- an entry of the front
here : (top : ℕ) (list : List Entry) (below : ℕ) → top ≤ length list → below < length (take top list)
    → (below + 1 ≤ top) × (get_or (take top list) below blank ≡ get_or list ((below + 1) - 1) blank)
here top list below h l =
    let n = length-take-le top list h in
    let d : below ≡ (below + 1) - 1 = omega arith in
    let k : below < top = omega arith in
    (omega arith, get_or-take top list below blank k ∙ ap (λ j. get_or list j blank) d)

pub overflow_sub-free : goal.overflow_sub-free
overflow_sub-free c =
    let test = noted c.args.self.now.scratch.now c.args.self.now.mark in
    some_free test c.args.list.now c.args.count c.args.out.now c.loop-below.below c.args.self.now.top c.loop-below.free c.loop-below.out
    (here c.args.self.now.top c.args.list.now c.loop-below.below c.requires.places c.loop-below-test.true).0
    (c.requires.counted ∙ count_places test c.args.self.now.top) (sym c.has.ensures ∙ c.if-has.true) c.loop-below.invariant

pub bounds-out-free : goal.bounds-out-free
bounds-out-free c =
    let l = c.loop-below.invariant.left in
    let k = c.loop-below.auto.out in
    let f = c.requires.fits in
    let n = overflow_sub-free c in
    omega arith

pub loop-below-preserved : goal.loop-below-preserved
loop-below-preserved c =
    let test = noted c.args.self.now.scratch.now c.args.self.now.mark in
    let h = here c.args.self.now.top c.args.list.now c.loop-below.below c.requires.places c.loop-below-test.true in
    elim c.if-has.branch [
      | then-has w ↦
          let t = sym c.has.ensures ∙ w.if-has.true in
          subst₂ (λ (f : ℕ) (o : List Spot). Written c.args.list.now test (c.loop-below.below + 1) c.args.count f c.args.out.now o)
          (sym w.free-is) (sym (w.out-is ∙ ap (λ e. set c.loop-below.out (c.loop-below.free - 1) (spot_of e)) h.1))
          (written_more test c.args.list.now c.args.count c.args.out.now c.loop-below.below c.loop-below.free c.loop-below.out c.requires.fits
          (some_free test c.args.list.now c.args.count c.args.out.now c.loop-below.below c.args.self.now.top c.loop-below.free c.loop-below.out h.0
          (c.requires.counted ∙ count_places test c.args.self.now.top) t c.loop-below.invariant)
          t c.loop-below.invariant)
      | else-has w ↦
          subst₂ (λ (f : ℕ) (o : List Spot). Written c.args.list.now test (c.loop-below.below + 1) c.args.count f c.args.out.now o)
          (sym w.free-is) (sym w.out-is)
          (written_same test c.args.list.now c.args.count c.args.out.now c.loop-below.below c.loop-below.free c.loop-below.out
          (sym c.has.ensures ∙ w.if-has.false) c.loop-below.invariant)
    ]

pub returns : goal.returns
returns c =
    let test = noted c.args.self.now.scratch.now c.args.self.now.mark in
    let n = length-take-le c.args.self.now.top c.args.list.now c.requires.places in
    let e : c.loop-below.below ≡ c.args.self.now.top = let l = c.loop-below-test.false in let k = c.loop-below.auto.below-end in omega arith in
    written_all test c.args.list.now c.args.count c.args.out.now c.args.self.now.top c.loop-below.free c.loop-below.out (c.requires.counted ∙ count_places test c.args.self.now.top)
    (subst (λ (p : ℕ). Written c.args.list.now test p c.args.count c.loop-below.free c.args.out.now c.loop-below.out) e c.loop-below.invariant)
