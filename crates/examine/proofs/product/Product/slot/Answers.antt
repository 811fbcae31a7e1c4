use Rattle.std.proofs.Common.{◌≡◌, refl, arith}
use denote.Enum.Declared.{tag_of}
use Rattle.examine.specs.contracts.fact.Sort.{the_type}
use Rattle.examine.specs.declared.fact.Sort.{Sort}
use Rattle.examine.specs.declared.fact.Sort.TheVariants.{Together, Poised, Apart}
use Rattle.examine.specs.Search.{setting, code}
use Rattle.examine.proofs.Slots.{slot_low, most_few}
use Rattle.examine.proofs.product.Product.slot.Goals as goal

tag_is : (x : Sort) → tag_of the_type x ≡ code x
tag_is Together = refl
tag_is Poised = refl
tag_is Apart = refl

pub overflow_mul-result : goal.overflow_mul-result
overflow_mul-result g c =
    let h = slot_low (setting g.C.Class.kinds c.args.self.now) c.args.fact c.requires.low in
    let k = most_few _ _ c.requires.bounded.forms_few c.requires.bounded.states_few in
    rw (tag_is c.args.fact.sort) (omega arith)

pub overflow_add-result : goal.overflow_add-result
overflow_add-result g c =
    let h = slot_low (setting g.C.Class.kinds c.args.self.now) c.args.fact c.requires.low in
    let k = most_few _ _ c.requires.bounded.forms_few c.requires.bounded.states_few in
    rw (tag_is c.args.fact.sort) (omega arith)

pub returns-clause-low : goal.returns-clause-low
returns-clause-low g c = rw (tag_is c.args.fact.sort) (slot_low (setting g.C.Class.kinds c.args.self.now) c.args.fact c.requires.low)
