use Rattle.std.proofs.Common.{◌≡◌, ℕ, ◌+◌, ◌-◌, ◌<◌, ◌≤◌, List, Some, None, Option, Bor, length, MatchOption, sym, refl, ap, ◌∙◌, inl, inr, arith, length-take-le}
use Rattle.std.specs.Slice.{IsGetRangeResult}
use Rattle.std.proofs.Common.{take}
use Rattle.boxes.specs.Shelf.{part}
use Rattle.boxes.proofs.Parts.{part_used}
use Rattle.boxes.proofs.stage.locate.part.Goals as goal

got : {A : Type 0} (xs : List A) (used first count end : ℕ) (o : Option (Bor (List A))) → used ≤ length xs → end ≡ first + count
    → IsGetRangeResult (take used xs) first end o
    → MatchOption o (used < first + count) (λ t. (first + count ≤ used) × (t.now ≡ part first count xs))
got xs used first count end None room e h = let l = length-take-le used xs room in elim h.0 [ inl a ↦ absurd (omega arith) | inr a ↦ omega arith ]
got xs used first count end (Some t) room e h =
    let l = length-take-le used xs room in
    let b = h.0.1 in
    let k : first + count ≤ used = omega arith in
    let d : end - first ≡ count = omega arith in
    (k, h.0.2 ∙ (ap (λ n. part first n (take used xs)) d ∙ sym (part_used used xs (take used xs) (record { room = room; front = refl }) first count k)))

pub returns : goal.returns
returns g c = got c.args.list.now c.args.used c.args.first c.args.count c.in_ok-end.end c.get.result c.requires c.in_ok-end.ensures.1 c.get.ensures.lookup
