use Rattle.std.proofs.Common.{◌≡◌, ℕ, ap, ◌∙◌, arith}
use Rattle.examine.specs.declared.fact.Sort.{Sort}
use Rattle.examine.specs.declared.fact.Fact.{Fact}
use Rattle.examine.specs.Search.{setting, state, slot, rest, noted, told, line_of}
use Rattle.examine.proofs.Claims.{fits, went_found, went_on, used_few}
use Rattle.examine.proofs.product.Product.claim.Goals as goal

pub offset_bounds-draft-top : goal.offset_bounds-draft-top
offset_bounds-draft-top g c = let h = used_few c.requires.fine in omega arith

pub bounds-draft-top : goal.bounds-draft-top
bounds-draft-top g c =
    let G = setting g.C.Class.kinds c.args.self.now in
    let new : line_of G (state c.args.draft.now) (told c.args.sort c.args.line) ≡ 0 = cc in
    let h = fits G (state c.args.draft.now) c.args.sort c.args.line c.requires.fine c.requires.due new in
    let r = c.requires.fine.room in
    omega arith

pub overflow_cast-top : goal.overflow_cast-top
overflow_cast-top g c = let h = used_few c.requires.fine in omega arith

pub overflow_cast-top-2 : goal.overflow_cast-top-2
overflow_cast-top-2 g c = let h = used_few c.requires.fine in omega arith

pub overflow_add-draft : goal.overflow_add-draft
overflow_add-draft g c = let h = used_few c.requires.fine in omega arith

pub returns-then-is_double : goal.returns-then-is_double
returns-then-is_double g c =
    let G = setting g.C.Class.kinds c.args.self.now in
    let s = state c.args.draft.now in
    let l = c.args.line in
    let at : Fact → ℕ = λ x. slot c.args.self.now.forms c.args.self.now.states x in
    let new : line_of G s (told c.args.sort l) ≡ 0 = cc in
    let f : c.told-rest.result ≡ told (rest c.args.sort) l = c.told-rest.ensures ∙ ap (λ (x : Sort). told x l) c.rest.ensures in
    let e : c.note-2.new.helper ≡ noted (noted s.slots (at (told c.args.sort l)) s.used) (at (told (rest c.args.sort) l)) s.used = cc in
    went_found G s c.args.sort l c.requires.fine c.requires.due new c.note-2.new.helper e cc

pub returns-else-is_double : goal.returns-else-is_double
returns-else-is_double g c =
    let G = setting g.C.Class.kinds c.args.self.now in
    let s = state c.args.draft.now in
    let l = c.args.line in
    let at : Fact → ℕ = λ x. slot c.args.self.now.forms c.args.self.now.states x in
    let new : line_of G s (told c.args.sort l) ≡ 0 = cc in
    let f : c.told-rest.result ≡ told (rest c.args.sort) l = c.told-rest.ensures ∙ ap (λ (x : Sort). told x l) c.rest.ensures in
    let e : c.note-2.new.helper ≡ noted (noted s.slots (at (told c.args.sort l)) s.used) (at (told (rest c.args.sort) l)) s.used = cc in
    went_on G s c.args.sort l c.requires.fine c.requires.due new c.note-2.new.helper e cc
