use Rattle.std.proofs.Common.{◌≡◌, ℕ, ◌-◌, ◌<◌, ◌≤◌, length, take, refl, arith, rules}
use Rattle.std.proofs.lemmas.List.{get_or-replicate, length-take-le}
use Rattle.table.specs.declared.fault.Role.TheVariants.{Form, Pattern}
use Rattle.table.specs.Table.{tab}
use Rattle.examine.specs.Search.{Setting, setting, state}
use Rattle.examine.proofs.Slots.{most_few}
use Rattle.table.proofs.Meaning.{states_counted}
use Rattle.examine.proofs.Verdict.{fine_first, verdict_of, lent_verdict, sound_plain, room_for}
use Rattle.examine.proofs.examine.decide.Goals as goal

pub search-requires : goal.search-requires
search-requires g c =
    let p = c.args.product in
    let G : Setting _ = setting g.C.Class.kinds p in
    let x = c.requires.tables in
    let a = c.requires.forms in
    let b = c.requires.states in
    let r = room_for (tab p.form) (tab p.pattern) p.forms p.states _ _ x a b in
    let list = c.args.helper.now in
    let one : 1 ≤ length list = omega arith in
    let len : length (take (length list - 1) list) ≡ length list - 1 = length-take-le (length list - 1) list (omega arith) in
    let l = c.fill.ensures.len in
    fine_first G _ refl
    (record { forms_few = (states_counted (tab p.form)).within Form x.form _ a; states_few = (states_counted (tab p.pattern)).within Pattern x.pattern _ b; form_states = a.below; pattern_states = b.below })
    r.0 (omega arith) (λ i h. let lt : i < length (take (length list - 1) list) = omega arith in rw (c.fill.ensures.after (λ y x. x), get_or-replicate {A = ℕ} _ i 0 0 lt))

pub returns : goal.returns
returns g c =
    let p = c.args.product in
    let G : Setting _ = setting g.C.Class.kinds p in
    let x = c.requires.tables in
    let h = (states_counted (tab p.form)).within Form x.form p.forms c.requires.forms in
    let k = (states_counted (tab p.pattern)).within Pattern x.pattern p.states c.requires.states in
    let f = most_few _ _ h k in
    let v = verdict_of G _ (state c.search.new.draft) c.search.result (sound_plain (tab p.form) x.form) (omega arith) c.search.ensures in
    let n = v.0.0 in
    lent_verdict G c.search.new.draft.lines.now _ c.search.result v.1 (search rules)
