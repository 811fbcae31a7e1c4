-- Where what begins at a place ends.
use Rattle.std.proofs.Common.{◌≡◌, ℕ, ◌+◌, ◌-◌, ◌<◌, ◌≤◌, Bool, true, false, List, length, get_or, drop, Option, Some, None, MatchOption, sym, ap, ◌∙◌, subst, arith, length-drop}
use Rattle.std.proofs.lemmas.List.{get_or-drop}
use Rattle.std.specs.List.{AllWithin, HoldsAt}
use Rattle.std.specs.Option.{unwrap_or}
use Rattle.notation.specs.Scan.{EndsBy}

-- an item of the rest, at its place in the whole
from_rest : (stops : ℕ → Bool → Type 0) (bytes : List ℕ) (at k : ℕ) (b : Bool) → at ≤ k → stops (get_or (drop at bytes) (k - at) 0) b → stops (get_or bytes k 0) b
from_rest stops bytes at k b g s =
    let e : at + (k - at) ≡ k = omega arith in
    subst (λ w. stops w b) (get_or-drop at bytes (k - at) 0 ∙ ap (λ i. get_or bytes i 0) e) s

-- at the first of the rest that stops it, or with the rest if none does
pub ends_by_first : (stops : ℕ → Bool → Type 0) (bytes : List ℕ) (at n : ℕ) (first : Option ℕ) → at ≤ length bytes → MatchOption first (AllWithin (λ b. stops b false) (drop at bytes) 0 (length (drop at bytes))) (λ i. (i < length (drop at bytes)) × HoldsAt (λ b. stops b true) (drop at bytes) i × AllWithin (λ b. stops b false) (drop at bytes) 0 i) → n ≡ unwrap_or first (length (drop at bytes)) → EndsBy stops bytes at (at + n)
ends_by_first stops bytes at n None h f e =
    let l : n ≡ length bytes - at = e ∙ length-drop at bytes in
    record {
      up = omega arith;
      within = omega arith;
      inner = λ k g i. from_rest stops bytes at k false g (f (k - at) 0 (omega arith) (omega (arith, length-drop at bytes)));
      ended = λ g. absurd (omega arith);
    }
ends_by_first stops bytes at n (Some i) h f e =
    let m : at + i < length bytes = omega (arith, length-drop at bytes, f.0) in
    let p : n ≡ i = e in
    record {
      up = omega arith;
      within = omega arith;
      inner = λ k g j. from_rest stops bytes at k false g (f.2 (k - at) 0 (omega arith) (omega arith));
      ended = λ g. subst (λ w. stops w true) (get_or-drop at bytes i 0 ∙ ap (λ j. get_or bytes (at + j) 0) (sym p)) (f.1 0);
    }
