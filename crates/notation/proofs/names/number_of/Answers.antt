use Rattle.std.proofs.Common.{◌≡◌, ℕ, string_bytes, rules}
use Rattle.std.proofs.lemmas.Iterator.{first_from_find, YieldsList-from_slice}
use borrow.Author.Tests.{tests}
use Rattle.notation.specs.declared.value.Name.{Name}
use Rattle.notation.specs.Names.{Calls}
use Rattle.notation.proofs.Named.{calls_at, calls_none}
use Rattle.notation.proofs.names.number_of.Goals as goal

pub returns-in_err-name : goal.returns-in_err-name
returns-in_err-name c =
    let found = first_from_find _ _ c.find.result (λ (n : Name). string_bytes n.word ≡ c.args.word.now) (λ (n : Name). string_bytes n.word ≡ c.args.word.now → ⊥) c.find.ensures.ran (YieldsList-from_slice c.args.names.now cc) (λ x q k. search (rules, tests)) (λ x q k. search (rules, tests)) in
    let none : (k : ℕ) → Calls c.args.names.now c.args.word.now k → ⊥ = λ k. calls_none _ _ k (rw c.in_err-name.was at found) in
    search (rules, none)

pub returns : goal.returns
returns c =
    let found = first_from_find _ _ c.find.result (λ (n : Name). string_bytes n.word ≡ c.args.word.now) (λ (n : Name). string_bytes n.word ≡ c.args.word.now → ⊥) c.find.ensures.ran (YieldsList-from_slice c.args.names.now cc) (λ x q k. search (rules, tests)) (λ x q k. search (rules, tests)) in
    let some = rw c.in_ok-name.was at found in
    calls_at c.args.names.now c.args.word.now some.1 c.in_ok-name.name.now some.2 (some.3 _) some.0
