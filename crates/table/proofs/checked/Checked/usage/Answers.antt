use Rattle.std.proofs.Common.{◌≡◌, ℕ, ◌<◌, true, false, ◌&&◌, sym, ap, ◌∙◌, ap₂, arith}
use Rattle.table.specs.Sets.{bit}
use Rattle.table.specs.declared.listing.Used.{Used}
use Rattle.table.specs.Table.{tab, At}
use Rattle.table.specs.Marks.{gives}
use Rattle.table.specs.Listing.{Uses, adds_inside, adds_after}
use Rattle.table.proofs.Gathering.{collected_more, collected_passed, collected_all}
use Rattle.table.proofs.Using.{InsideBy, AfterBy, MarkedBy, inside_taken, after_taken, marked_taken, in_use, unused}
use Rattle.table.proofs.checked.Checked.usage.Goals as goal
use Rattle.table.proofs.checked.Checked.usage.Goals.{then-takes-holds, else-takes-holds}

pub takes-requires : goal.takes-requires
takes-requires g c = c.args.self.now.bounded c.loop-rule.rule-index c.rule-item.result (c.loop-rule-test.true, sym c.rule-item.is)

pub add-all-requires : goal.add-all-requires
add-all-requires g c = c.args.self.now.bounded c.loop-rule.rule-index c.rule-item.result (c.loop-rule-test.true, sym c.rule-item.is)

pub loop-rule-preserved : goal.loop-rule-preserved
loop-rule-preserved g c =
    let K = g.C.Class.kinds in
    let T = tab c.args.self.now.table in
    let k = c.args.kind in
    let l = bit c.args.live in
    let i = bit c.args.inside in
    let a = bit c.args.after in
    let n = c.loop-rule.rule-index in
    let x = c.rule-item.result in
    let at : At T.rules n x = (c.loop-rule-test.true, sym c.rule-item.is) in
    let old = c.loop-rule.all in
    let new = c.if-takes-holds.all in
    let test : (c.takes.result && c.holds.result) ≡ in_use K T k l i a x = ap₂ (λ y z. y && z) c.takes.ensures c.holds.ensures in
    elim c.if-takes-holds.branch [
      | then-takes-holds w ↦
          let e : in_use K T k l i a x ≡ true = sym test ∙ w.if-takes-holds.true in (
            collected_more (InsideBy K T k l i a) n (adds_inside x.step) (bit old.inside) (bit new.inside) (inside_taken K T k l i a n x (omega arith) at e)
                (λ q. ap (λ (z : Used). bit z.inside q) w.all-is ∙ w.add-all.ensures.insides q) c.loop-rule.invariant.0,
            collected_more (AfterBy K T k l i a) n (adds_after x.to x.step) (bit old.after) (bit new.after) (after_taken K T k l i a n x (omega arith) at e)
                (λ q. ap (λ (z : Used). bit z.after q) w.all-is ∙ w.add-all.ensures.afters q) c.loop-rule.invariant.1,
            collected_more (MarkedBy K T k l i a) n (gives x.step) (bit old.marks) (bit new.marks) (marked_taken K T k l i a n x (omega arith) at e)
                (λ q. ap (λ (z : Used). bit z.marks q) w.all-is ∙ w.add-all.ensures.marked q) c.loop-rule.invariant.2,
          )
      | else-takes-holds w ↦
          let e : in_use K T k l i a x ≡ false = sym test ∙ w.if-takes-holds.false in (
            collected_passed (InsideBy K T k l i a) n (bit old.inside) (bit new.inside) (λ s u. unused K T k l i a n s u.0 x at e u.1)
                (λ q. ap (λ (z : Used). bit z.inside q) w.all-is) c.loop-rule.invariant.0,
            collected_passed (AfterBy K T k l i a) n (bit old.after) (bit new.after) (λ t u. unused K T k l i a n u.0 t x at e u.1)
                (λ q. ap (λ (z : Used). bit z.after q) w.all-is) c.loop-rule.invariant.1,
            collected_passed (MarkedBy K T k l i a) n (bit old.marks) (bit new.marks) (λ m u. unused K T k l i a n u.0 u.1 x at e u.2)
                (λ q. ap (λ (z : Used). bit z.marks q) w.all-is) c.loop-rule.invariant.2,
          )
    ]

pub returns : goal.returns
returns g c =
    let K = g.C.Class.kinds in
    let T = tab c.args.self.now.table in
    let k = c.args.kind in
    let l = bit c.args.live in
    let i = bit c.args.inside in
    let a = bit c.args.after in
    let n = c.loop-rule.rule-index in
    let all = c.loop-rule.all in
    let below : (r s t : ℕ) → Uses K T k l i a r s t → r < n = λ r s t u. omega (arith, u.1.rule.0) in
    record {
      insides = λ s.
          let e = collected_all (InsideBy K T k l i a) n (bit all.inside) (λ r q u. below r q u.0 u.1) c.loop-rule.invariant.0 s in
          (λ b. let u = e.0 b in (u.0, u.1.0, u.1.1), λ u. e.1 (u.0, (u.1, u.2)));
      afters = λ t.
          let e = collected_all (AfterBy K T k l i a) n (bit all.after) (λ r q u. below r u.0 q u.1) c.loop-rule.invariant.1 t in
          (λ b. let u = e.0 b in (u.0, u.1.0, u.1.1), λ u. e.1 (u.0, (u.1, u.2)));
      marked = λ m.
          let e = collected_all (MarkedBy K T k l i a) n (bit all.marks) (λ r q u. below r u.0 u.1 u.2) c.loop-rule.invariant.2 m in
          (λ b. let u = e.0 b in (u.0, u.1.0, u.1.1, u.1.2, u.1.3), λ u. e.1 (u.0, (u.1, u.2, u.3, u.4)));
    }
