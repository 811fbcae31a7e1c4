use Rattle.examine.specs.declared.fact.Sort.TheVariants.{Together, Apart}
use Rattle.examine.specs.Facts.Makes.{plain, parted, within, beyond}
use Rattle.examine.specs.Search.{setting, state}
use Rattle.examine.specs.Turns.{inside_fact, after_fact, whole_fact, Made, Crossed}
use Rattle.examine.proofs.Claims.{on_more, went_then}
use Rattle.examine.proofs.Joining.{made_by, made_from, made_on, crossed_done}
use Rattle.examine.proofs.product.Product.cross.Goals as goal

pub join-requires-clause-makes : goal.join-requires-clause-makes
join-requires-clause-makes g c = plain

pub join-requires-then-trio-clause-makes : goal.join-requires-then-trio-clause-makes
join-requires-then-trio-clause-makes g c = within c.if-trio.true

pub join-requires-then-trio-2-clause-makes : goal.join-requires-then-trio-2-clause-makes
join-requires-then-trio-2-clause-makes g c = beyond c.if-trio.true

pub join-requires-then-trio-2-2-clause-makes : goal.join-requires-then-trio-2-2-clause-makes
join-requires-then-trio-2-2-clause-makes g c = parted c.if-trio.false c.if-trio-2.true

pub returns-then-trio : goal.returns-then-trio
returns-then-trio g c =
    let G = setting g.C.Class.kinds c.args.self.now in
    let s = state c.args.draft.now in
    let t = state c.join-then-trio-2.new.draft in
    let w = c.args.turn in
    let u = c.args.trio in
    let o₁ = c.in_ok-join.ensures in
    let o₂ = c.in_ok-join-2.ensures in
    let a = on_more o₁.0 o₂.0 in
    went_then (λ G s t. Made G s t w (inside_fact Together u) (after_fact Apart u) (whole_fact Apart u)) (λ G s t. Crossed G s t w u.form.rule u.first.rule u.second.rule) c.join-then-trio-2.result a
    (λ h d. crossed_done G w u c.requires.taken
    (made_by u.first.rule u.second.rule u.first.from u.second.from (λ x y z. Made G s t w (inside_fact x u) (after_fact y u) (whole_fact z u))
    (made_on G w h _ _ _ (made_on G w o₂.0.grown _ _ _ o₁.1))
    (λ n e. absurd (n c.if-trio.true))
    (λ q. made_on G w h _ _ _ (made_from G w o₁.0.grown _ _ _ o₂.1))
    (λ q. made_from G w a.grown _ _ _ d)))
    c.join-then-trio-2.ensures

pub returns-then-trio-2 : goal.returns-then-trio-2
returns-then-trio-2 g c =
    let G = setting g.C.Class.kinds c.args.self.now in
    let s = state c.args.draft.now in
    let t = state c.join-then-trio-2-2.new.draft in
    let w = c.args.turn in
    let u = c.args.trio in
    let o₁ = c.in_ok-join.ensures in
    went_then (λ G s t. Made G s t w (inside_fact Together u) (after_fact Together u) (whole_fact Apart u)) (λ G s t. Crossed G s t w u.form.rule u.first.rule u.second.rule) c.join-then-trio-2-2.result o₁.0
    (λ h d. crossed_done G w u c.requires.taken
    (made_by u.first.rule u.second.rule u.first.from u.second.from (λ x y z. Made G s t w (inside_fact x u) (after_fact y u) (whole_fact z u))
    (made_on G w h _ _ _ o₁.1)
    (λ n e. made_from G w o₁.0.grown _ _ _ d)
    (λ q. absurd (c.if-trio.false q))
    (λ q. absurd (c.if-trio.false q))))
    c.join-then-trio-2-2.ensures

pub returns : goal.returns
returns g c =
    let G = setting g.C.Class.kinds c.args.self.now in
    let s = state c.args.draft.now in
    let t = state c.join.new.draft in
    let w = c.args.turn in
    let u = c.args.trio in
    let o₁ = c.in_ok-join.ensures in (
      o₁.0,
      crossed_done G w u c.requires.taken
          (made_by u.first.rule u.second.rule u.first.from u.second.from (λ x y z. Made G s t w (inside_fact x u) (after_fact y u) (whole_fact z u))
          o₁.1
          (λ n e. absurd (c.if-trio-2.false e))
          (λ q. absurd (c.if-trio.false q))
          (λ q. absurd (c.if-trio.false q))),
    )
