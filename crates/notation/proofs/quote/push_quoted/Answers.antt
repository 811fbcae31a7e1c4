use Rattle.std.proofs.Common.{◌≡◌, ℕ, ◌+◌, ◌<◌, List, [], ◌∷◌, ◌++◌, length, get_or, take, sym, ap, ◌∙◌, subst, rules}
use Rattle.std.proofs.lemmas.List.{take_more, take_all}
use Rattle.notation.specs.Quote.{Spells, none, Quoted, quoted}
use Rattle.notation.proofs.Quoted.{spells_push}
use Rattle.notation.proofs.Written.{adds_nothing, adds_more, adds_these}
use Rattle.notation.proofs.quote.push_quoted.Goals as goal

pub loop-byte-init : goal.loop-byte-init
loop-byte-init c = adds_nothing _ (λ s. Spells s []) none

pub loop-byte-preserved : goal.loop-byte-preserved
loop-byte-preserved c =
    let bytes = c.args.bytes.now in
    let i = c.loop-byte.byte-index in
    let h : i < length bytes = search rules in
    adds_more (λ s. Spells s (take (i + 1) bytes)) c.loop-byte.invariant c.in_ok-push_byte.ensures
    (λ p q s b. subst (λ (w : List ℕ). Spells (p ++ q) w) (sym (take_more bytes i 0 h)) (spells_push q (get_or bytes i 0) s b))

pub returns : goal.returns
returns c =
    let bytes = c.args.bytes.now in
    let i = c.loop-byte.byte-index in
    let all : take i bytes ≡ bytes = take_all i bytes (search rules) in
    adds_more (λ p. Quoted p bytes)
    (adds_these _ _ (34 ∷ []) c.in_ok-push.ensures.items)
    (adds_more (λ p. (s : List ℕ) × Spells s bytes × (p ≡ s ++ 34 ∷ [])) c.loop-byte.invariant (adds_these _ _ (34 ∷ []) c.in_ok-push-2.ensures.items)
    (λ p q s e. (p, subst (λ (w : List ℕ). Spells p w) all s, ap (λ (w : List ℕ). p ++ w) e)))
    (λ p q e f. subst (λ (w : List ℕ). Quoted w bytes) (sym (ap (λ (w : List ℕ). w ++ q) e ∙ ap (λ (w : List ℕ). 34 ∷ w) f.2)) (quoted f.1))
