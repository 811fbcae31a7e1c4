-- What is written after what is there, at the results of calls.
use Rattle.std.proofs.Common.{◌≡◌, ℕ, cond, List, [], ◌++◌, is_ok, IfOk, Ok, Err, vec_items, Result, Vec, sym, refl, ap, ◌∙◌, append_assoc, append-nil}
use Rattle.std.specs.declared.alloc.Global.{Global}
use Rattle.notation.specs.Writes.{Adds}

pub adds_made : {T E : Type 0} (r : Result T E) (before after : Vec ℕ Global) (added : List ℕ) (P : List ℕ → Type 0) → P added → vec_items after ≡ cond (is_ok r) (vec_items before ++ added) (vec_items before) → IfOk r (λ _. Adds before after P)
adds_made (Ok x) before after added P p e = record { added = added; says = p; all = e }
adds_made (Err y) before after added P p e = tt

pub adds_nothing : (v : Vec ℕ Global) (P : List ℕ → Type 0) → P [] → Adds v v P
adds_nothing v P p = record { added = []; says = p; all = sym (append-nil (vec_items v)) }

pub adds_more : {a b c : Vec ℕ Global} {P Q : List ℕ → Type 0} (R : List ℕ → Type 0) → Adds a b P → Adds b c Q → ((p q : List ℕ) → P p → Q q → R (p ++ q)) → Adds a c R
adds_more {a} R x y f =
    record {
      added = x.added ++ y.added;
      says = f x.added y.added x.says y.says;
      all = y.all ∙ (ap (λ (w : List ℕ). w ++ y.added) x.all ∙ append_assoc (vec_items a) x.added y.added);
    }

-- bytes that a call has put at the end
pub adds_these : (a b : Vec ℕ Global) (added : List ℕ) → vec_items b ≡ vec_items a ++ added → Adds a b (λ p. p ≡ added)
adds_these a b added e = record { added = added; says = refl; all = e }
