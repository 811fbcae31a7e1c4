use Rattle.std.proofs.Common.{◌≡◌, ℕ, ◌<◌, false, eqb, not, Some, None, Option, sym, ◌∙◌, arith}
use Rattle.std.specs.Option.{MatchOption, option_eq}
use Rattle.std.proofs.lemmas.Bool.{eqb-true, not-false, true≢false}
use Rattle.examine.specs.Search.{setting, state, line_of}
use Rattle.examine.proofs.Claims.{ready_low}
use Rattle.examine.proofs.Emptying.{shown_by, lead_due}
use Rattle.examine.proofs.product.Product.lead.Goals as goal

pub offset_bounds-draft-b : goal.offset_bounds-draft-b
offset_bounds-draft-b g c = let h = ready_low c.requires.ready in omega arith

pub bounds-draft-b : goal.bounds-draft-b
bounds-draft-b g c = (ready_low c.requires.ready).1

found_at : (o : Option ℕ) (b n : ℕ) → MatchOption o (n ≡ 0) (λ m. (0 < m) × (n ≡ m)) → not (option_eq eqb o (Some b)) ≡ false → n ≡ b
found_at None b n m e = absurd (true≢false e)
found_at (Some k) b n m e = m.1 ∙ eqb-true k b (not-false (eqb k b) e)

pub claim-requires-clause-due : goal.claim-requires-clause-due
claim-requires-clause-due g c =
    let G = setting g.C.Class.kinds c.args.self.now in
    let r = c.requires.ready in
    let u = r.used.0 in
    let e = found_at c.find.result c.args.b (line_of G (state c.args.draft.now) c.args.known) c.find.ensures (sym c.ne.ensures ∙ c.if-ne.false) in
    lead_due G r.fine r.used c.requires.leads.leads c.requires.leads.after (shown_by G r.fine c.args.known (record { low = c.requires.leads.before; lined = omega arith }) e)
