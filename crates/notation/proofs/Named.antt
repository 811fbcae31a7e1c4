-- Names one after another.
use Rattle.std.proofs.Common.{◌≡◌, ℕ, zero, suc, ◌<◌, List, [], ◌∷◌, length, get_or, string_bytes, refl, sym, subst, inl, inr, ⊎_elim, arith}
use Rattle.std.specs.List.{AllWithin}
use Rattle.notation.specs.declared.value.Name.{Name}
use Rattle.notation.specs.Names.{Calls, Unnamed}

-- a name in the list names its number
pub calls_at : (ns : List Name) (word : List ℕ) (i : ℕ) (n : Name) → i < length ns → get_or ns i n ≡ n → string_bytes n.word ≡ word → Calls ns word n.number
calls_at [] word i n h e w = absurd (omega arith)
calls_at (m ∷ ns) word zero n h e w = let P : Name → Type 0 = λ x. (string_bytes x.word ≡ word) × (x.number ≡ n.number) in inl (subst P (sym e) (w, refl))
calls_at (m ∷ ns) word (suc i) n h e w = inr (calls_at ns word i n (omega arith) e w)

-- names of which none is the word
pub calls_none : (ns : List Name) (word : List ℕ) (k : ℕ) → AllWithin (λ n. string_bytes n.word ≡ word → ⊥) ns 0 (length ns) → Calls ns word k → ⊥
calls_none [] word k a c = c
calls_none (n ∷ ns) word k a c = ⊎_elim (λ h. a 0 n (omega arith) (omega arith) h.0) (λ h. calls_none ns word k (λ i d l g. a (suc i) d (omega arith) (omega arith)) h) c

pub unnamed_all : (ns : List Name) (k : ℕ) → AllWithin (λ n. n.number ≡ k → ⊥) ns 0 (length ns) → Unnamed ns k
unnamed_all [] k a = tt
unnamed_all (n ∷ ns) k a = (a 0 n (omega arith) (omega arith), unnamed_all ns k (λ i d l g. a (suc i) d (omega arith) (omega arith)))
