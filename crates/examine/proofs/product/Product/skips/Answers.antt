use Rattle.std.proofs.Common.{ℕ, arith}
use Rattle.examine.specs.Facts.{together, poised, apart}
use Rattle.examine.specs.Facts.Leads.{slips, slides, against, both}
use Rattle.examine.specs.Lines.{line_at}
use Rattle.examine.specs.Search.{setting, state, LedBy, Forked}
use Rattle.examine.proofs.Claims.{known_on, on_more, ready_low, went_then}
use Rattle.examine.proofs.Emptying.{line_on, line_low, rule_low, skips_done, forked_from}
use Rattle.examine.proofs.product.Product.skips.Goals as goal

pub offset_bounds-draft-b : goal.offset_bounds-draft-b
offset_bounds-draft-b g c = let h = ready_low c.requires.ready in omega arith

pub bounds-draft-b : goal.bounds-draft-b
bounds-draft-b g c = (ready_low c.requires.ready).1

pub lead-requires-clause-leads : goal.lead-requires-clause-leads
lead-requires-clause-leads g c =
    let G = setting g.C.Class.kinds c.args.self.now in
    let l = line_low G c.requires.ready in
    let u = rule_low G c.requires.ready.fine c.args.skip.rule c.requires.rule in
    rw (c.about-slips.ensures, c.about-slipped.ensures)
    (record { before = (l.0, u.1, l.2); after = (l.0, u.0, l.2); rule = c.args.skip.rule; leads = slips c.args.skip.rule c.requires.rule })

pub lead-requires-2-clause-leads : goal.lead-requires-2-clause-leads
lead-requires-2-clause-leads g c =
    let G = setting g.C.Class.kinds c.args.self.now in
    let l = line_low G c.requires.ready in
    let u = rule_low G c.requires.ready.fine c.args.skip.rule c.requires.rule in
    rw (c.about-against.ensures, c.about-apart.ensures)
    (record { before = (l.0, u.1, u.0); after = (l.0, u.0, u.0); rule = c.args.skip.rule; leads = against c.args.skip.rule c.requires.rule })

pub lead-requires-3-clause-leads : goal.lead-requires-3-clause-leads
lead-requires-3-clause-leads g c =
    let G = setting g.C.Class.kinds c.args.self.now in
    let l = line_low G c.requires.ready in
    let u = rule_low G c.requires.ready.fine c.args.skip.rule c.requires.rule in
    rw (c.about-slides.ensures, c.about-slid.ensures)
    (record { before = (l.0, l.1, u.1); after = (l.0, l.1, u.0); rule = c.args.skip.rule; leads = slides c.args.skip.rule c.requires.rule })

pub lead-requires-4-clause-leads : goal.lead-requires-4-clause-leads
lead-requires-4-clause-leads g c =
    let G = setting g.C.Class.kinds c.args.self.now in
    let l = line_low G c.requires.ready in
    let u = rule_low G c.requires.ready.fine c.args.skip.rule c.requires.rule in
    rw (c.about.ensures, c.about-apart.ensures)
    (record { before = (l.0, u.1, u.1); after = (l.0, u.0, u.0); rule = c.args.skip.rule; leads = both c.args.skip.rule c.requires.rule })

pub returns : goal.returns
returns g c =
    let G = setting g.C.Class.kinds c.args.self.now in
    let s = state c.args.draft.now in
    let b = c.args.b in
    let z = c.requires.ready.used.0 in
    let l = line_at s.lines b in
    let from = c.args.skip.from in
    let to = c.args.skip.to in
    let o₁ = c.in_ok-lead.ensures in
    let o₂ = c.in_ok-lead-2.ensures in
    let o₃ = c.in_ok-lead-3.ensures in
    let o₄ = c.in_ok-lead-4.ensures in
    let a₂ = on_more o₁.0 o₂.0 in
    let a₃ = on_more a₂ o₃.0 in
    let a₄ = on_more a₃ o₄.0 in
    let b₃ = on_more o₃.0 o₄.0 in
    let b₂ = on_more o₂.0 b₃ in
    let d₁ = rw (c.about-slips.ensures, c.about-slipped.ensures) at o₁.1 in
    let d₂ = rw (c.about-against.ensures, c.about-apart.ensures) at o₂.1 in
    let d₃ = rw (c.about-slides.ensures, c.about-slid.ensures) at o₃.1 in
    let d₄ = rw (c.about.ensures, c.about-apart.ensures) at o₄.1 in
    went_then (λ G s t. (r : ℕ) → Forked G s t b c.args.skip.rule r) (λ G s t. LedBy G s t b c.args.skip.rule) c.forks.result a₄
    (λ h d. skips_done G s b c.requires.ready.fine c.args.skip.rule from to c.requires.rule
    (λ e. known_on h _ (known_on b₂.grown _ (d₁ e)))
    (λ e. known_on h _ (known_on b₃.grown _ (d₂ (line_on G b o₁.0.grown z (poised l.form to from) e))))
    (λ e. known_on h _ (known_on o₄.0.grown _ (d₃ (line_on G b a₂.grown z (together l.form l.first to) e))))
    (λ e. known_on h _ (d₄ (line_on G b a₃.grown z (apart l.form to) e)))
    (λ r₂. forked_from G b c.args.skip.rule r₂ z a₄.grown (d r₂)))
    c.forks.ensures
