use Rattle.std.proofs.Common.{◌^◌, ◌<◌, ◌≤◌, sym, ap, ◌∙◌, subst, arith, rules}
use Rattle.std.proofs.lemmas.Nat.{le_or_l}
use Rattle.std.proofs.lemmas.Bool.{and_parts, eqb-true}
use Rattle.table.specs.declared.counted.Counted.{Counted}
use Rattle.table.specs.Table.{tab}
use Rattle.table.specs.Counting.{sets}
use Rattle.table.proofs.Rounds.{more_states, Sounds, sounds_base, sounds_more, settled_all}
use Rattle.table.proofs.checked.Checked.settle.Goals as goal

pub returns-then-eq : goal.returns-then-eq
returns-then-eq g c =
    let is = c.union-next.ensures in
    let same = and_parts _ _ (sym c.if-eq.ensures) in
    settled_all g.C.Class.kinds (tab c.args.self.now.table) (sets c.args.base) c.loop-base.here.some c.loop-base.here.many
    c.round.result.some c.round.result.many c.round.ensures c.loop-base.invariant.2
    (sym (ap (λ (z : Counted). z.some) is) ∙ eqb-true _ _ same.0) (sym (ap (λ (z : Counted). z.many) is) ∙ eqb-true _ _ same.1)

pub loop-base-init : goal.loop-base-init
loop-base-init g c = (search rules, search rules, sounds_base g.C.Class.kinds (tab c.args.self.now.table) (sets c.args.base))

pub loop-base-smaller : goal.loop-base-smaller
loop-base-smaller g c =
    let is = c.union-next.ensures in
    let here = c.loop-base.here in
    let next = c.union-next.result in
    let some = subst (λ z. here.some ≤ z) (sym (ap (λ (z : Counted). z.some) is)) (le_or_l here.some c.round.result.some) in
    let many = subst (λ z. here.many ≤ z) (sym (ap (λ (z : Counted). z.many) is)) (le_or_l here.many c.round.result.many) in
    let more = more_states next.some here.some next.many here.many (sym c.if-eq.ensures) some many in
    let a : next.some < 2 ^ 64 = search rules in
    let b : next.many < 2 ^ 64 = search rules in
    omega arith

pub loop-base-preserved : goal.loop-base-preserved
loop-base-preserved g c = (
  search rules,
  search rules,
  subst (λ (z : Counted). Sounds g.C.Class.kinds (tab c.args.self.now.table) (sets c.args.base) (sets z)) (sym c.union-next.ensures)
      (sounds_more g.C.Class.kinds (tab c.args.self.now.table) (sets c.args.base) c.loop-base.here.some c.loop-base.here.many
      c.round.result.some c.round.result.many c.round.ensures c.loop-base.invariant.2),
)
