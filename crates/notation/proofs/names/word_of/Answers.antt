use Rattle.std.proofs.Common.{◌≡◌, sym, subst, rules}
use Rattle.std.proofs.lemmas.Iterator.{first_from_find, YieldsList-from_slice}
use borrow.Author.Tests.{tests}
use Rattle.notation.specs.declared.value.Name.{Name}
use Rattle.notation.specs.Names.{Calls, Unnamed}
use Rattle.notation.proofs.Named.{calls_at, unnamed_all}
use Rattle.notation.proofs.names.word_of.Goals as goal

pub returns-in_err-name : goal.returns-in_err-name
returns-in_err-name c =
    let found = first_from_find _ _ c.find.result (λ (n : Name). n.number ≡ c.args.number) (λ (n : Name). n.number ≡ c.args.number → ⊥) c.find.ensures.ran (YieldsList-from_slice c.args.names.now cc) (λ x q k. search (rules, tests)) (λ x q k. search (rules, tests)) in
    let unnamed : Unnamed c.args.names.now c.args.number = unnamed_all _ _ (rw c.in_err-name.was at found) in
    search rules

pub returns : goal.returns
returns c =
    let found = first_from_find _ _ c.find.result (λ (n : Name). n.number ≡ c.args.number) (λ (n : Name). n.number ≡ c.args.number → ⊥) c.find.ensures.ran (YieldsList-from_slice c.args.names.now cc) (λ x q k. search (rules, tests)) (λ x q k. search (rules, tests)) in
    let some = rw c.in_ok-name.was at found in
    subst (λ k. Calls c.args.names.now c.as_bytes.result.now k) some.0
    (calls_at c.args.names.now c.as_bytes.result.now some.1 c.in_ok-name.name.now some.2 (some.3 _) (sym c.as_bytes.ensures.value))
