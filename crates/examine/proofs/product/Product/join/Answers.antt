use Rattle.examine.specs.Search.{setting}
use Rattle.examine.specs.Turns.{inside_fact, after_fact}
use Rattle.examine.proofs.Emptying.{found_by}
use Rattle.examine.proofs.Joining.{inside_low, after_low, join_due}
use Rattle.examine.proofs.product.Product.join.Goals as goal

pub find-requires-clause-low : goal.find-requires-clause-low
find-requires-clause-low g c = rw c.fact.ensures (inside_low (setting g.C.Class.kinds c.args.self.now) c.requires.fine c.args.trio c.requires.taken c.args.inside)

pub find-requires-2-clause-low : goal.find-requires-2-clause-low
find-requires-2-clause-low g c = rw c.fact-2.ensures (after_low (setting g.C.Class.kinds c.args.self.now) c.requires.fine c.args.trio c.requires.taken c.args.after)

pub claim-requires-clause-due : goal.claim-requires-clause-due
claim-requires-clause-due g c =
    let G = setting g.C.Class.kinds c.args.self.now in
    let i = c.in-Some.ensures in
    let j = c.in-Some-find.ensures in
    let ex = rw c.fact.ensures at i.1 in
    let ey = rw c.fact-2.ensures at j.1 in
    let u = c.args.trio in
    let x = found_by G c.requires.fine (inside_fact c.args.inside u) (inside_low G c.requires.fine u c.requires.taken c.args.inside) c.in-Some.i i.0 ex in
    let y = found_by G c.requires.fine (after_fact c.args.after u) (after_low G c.requires.fine u c.requires.taken c.args.after) c.in-Some-find.j j.0 ey in
    join_due G c.requires.fine u c.requires.taken c.requires.makes c.in-Some.i c.in-Some-find.j x.0 y.0 x.1 y.1
