-- The front of a list that spells one byte.
use Rattle.std.proofs.Common.{◌≡◌, ℕ, suc, ◌+◌, ◌-◌, ◌*◌, ◌/◌, ◌%◌, ◌<◌, ◌≤◌, List, [], ◌∷◌, ◌++◌, length, get_or, take, drop, sym, ap, ◌∙◌, subst, append_assoc, append-nil, arith, take-add}
use Rattle.std.proofs.lemmas.List.{drop-drop, drop_more}
use Rattle.std.specs.List.{between}
use Rattle.notation.specs.declared.quote.Piece.{Piece}
use Rattle.notation.specs.Quoting.{FirstOf}
use Rattle.notation.specs.Quote.{HexByte, Escape, Byte, plain, letter, hex, Spells, none, more, Quoted, quoted}

pub spelt_plain : (xs : List ℕ) → 1 ≤ length xs → (get_or xs 0 0 ≡ 34 → ⊥) → (get_or xs 0 0 ≡ 92 → ⊥) → Byte (take 1 xs) (get_or xs 0 0)
spelt_plain [] h p q = absurd (omega arith)
spelt_plain (x ∷ xs) h p q = plain p q

pub spelt_letter : (xs : List ℕ) (b : ℕ) → 2 ≤ length xs → get_or xs 0 0 ≡ 92 → Escape (get_or xs 1 0) b → Byte (take 2 xs) b
spelt_letter [] b h e p = absurd (omega arith)
spelt_letter (x ∷ []) b h e p = absurd (omega arith)
spelt_letter (x ∷ y ∷ xs) b h e p = subst (λ (w : ℕ). Byte (w ∷ y ∷ []) b) (sym e) (letter p)

pub spelt_by_hex : (h l b : ℕ) → HexByte h l b → Byte (92 ∷ 120 ∷ h ∷ l ∷ []) b
spelt_by_hex h l b p = let e : 16 * (b / 16) + b % 16 ≡ b = omega arith in subst (λ (w : ℕ). Byte (92 ∷ 120 ∷ h ∷ l ∷ []) w) e (hex p.0 p.1)

pub spelt_hex : (xs : List ℕ) (b : ℕ) → 4 ≤ length xs → get_or xs 0 0 ≡ 92 → get_or xs 1 0 ≡ 120 → HexByte (get_or xs 2 0) (get_or xs 3 0) b → Byte (take 4 xs) b
spelt_hex [] b h e f p = absurd (omega arith)
spelt_hex (x ∷ []) b h e f p = absurd (omega arith)
spelt_hex (x ∷ y ∷ []) b h e f p = absurd (omega arith)
spelt_hex (x ∷ y ∷ z ∷ []) b h e f p = absurd (omega arith)
spelt_hex (x ∷ y ∷ z ∷ w ∷ xs) b h e f p = subst (λ (u : ℕ). Byte (u ∷ y ∷ z ∷ w ∷ []) b) (sym e) (subst (λ (u : ℕ). Byte (92 ∷ u ∷ z ∷ w ∷ []) b) (sym f) (spelt_by_hex z w b p))

-- one more byte at the end
pub spells_push : {s out : List ℕ} (p : List ℕ) (b : ℕ) → Spells s out → Byte p b → Spells (s ++ p) (out ++ b ∷ [])
spells_push p b none h = subst (λ (w : List ℕ). Spells w (b ∷ [])) (append-nil p) (more h none)
spells_push p b (more {p = q} {s} {out} {b = d} g r) h = subst (λ (w : List ℕ). Spells w (d ∷ out ++ b ∷ [])) (sym (append_assoc q s p)) (more g (spells_push p b r h))

-- the part from one place to another, and the front of the rest
pub between_add : (xs : List ℕ) (from at n : ℕ) → from ≤ at → between from (at + n) xs ≡ between from at xs ++ take n (drop at xs)
between_add xs from at n h =
    let e : at + n - from ≡ (at - from) + n = omega arith in
    let f : from + (at - from) ≡ at = omega arith in
    ap (λ k. take k (drop from xs)) e ∙ (take-add (at - from) n (drop from xs) ∙ ap (λ (w : List ℕ). between from at xs ++ take n w) (drop-drop (at - from) from xs ∙ ap (λ k. drop k xs) f))

-- one more piece
pub spells_more : (line : List ℕ) (from end : ℕ) (p : Piece) (rest old new : List ℕ) → from ≤ end → rest ≡ drop end line → Spells (between from end line) old → FirstOf rest p → new ≡ old ++ p.byte ∷ [] → Spells (between from (end + p.size) line) new
spells_more line from end p rest old new h e s f g =
    let b : Byte (take p.size (drop end line)) p.byte = subst (λ (w : List ℕ). Byte (take p.size w) p.byte) e f.spelt in
    let t : Spells (between from end line ++ take p.size (drop end line)) (old ++ p.byte ∷ []) = spells_push _ p.byte s b in
    subst (λ (w : List ℕ). Spells (between from (end + p.size) line) w) (sym g)
    (subst (λ (w : List ℕ). Spells w (old ++ p.byte ∷ [])) (sym (between_add line from end p.size h)) t)

pub spells_nothing : (line : List ℕ) (from : ℕ) (out : List ℕ) → out ≡ [] → Spells (between from from line) out
spells_nothing line from out e =
    let z : from - from ≡ 0 = omega arith in
    subst (λ (w : List ℕ). Spells (between from from line) w) (sym e) (subst (λ (k : ℕ). Spells (take k (drop from line)) []) (sym z) none)

between_first : (xs : List ℕ) (a b : ℕ) → a < b → a < length xs → between a b xs ≡ get_or xs a 0 ∷ between (a + 1) b xs
between_first xs a b h l =
    let e : b - a ≡ suc (b - (a + 1)) = omega arith in
    ap (λ k. take k (drop a xs)) e ∙ ap (λ (w : List ℕ). take (suc (b - (a + 1))) w) (drop_more xs a 0 l)

between_last : (xs : List ℕ) (a b : ℕ) → a ≤ b → b < length xs → between a (b + 1) xs ≡ between a b xs ++ get_or xs b 0 ∷ []
between_last xs a b h l =
    between_add xs a b 1 h ∙ ap (λ (w : List ℕ). between a b xs ++ take 1 w) (drop_more xs b 0 l)

-- between its quotes a text spells these bytes
pub quoted_at : (line : List ℕ) (from end : ℕ) (out : List ℕ) → 0 < from → from ≤ end → end < length line → get_or line (from - 1) 0 ≡ 34 → get_or line end 0 ≡ 34 → Spells (between from end line) out → Quoted (between (from - 1) (end + 1) line) out
quoted_at line from end out z h l p q s =
    let f : from - 1 + 1 ≡ from = omega arith in
    let e : between (from - 1) (end + 1) line ≡ 34 ∷ between from end line ++ 34 ∷ [] =
    between_first line (from - 1) (end + 1) (omega arith) (omega arith)
    ∙ (ap (λ k. k ∷ between (from - 1 + 1) (end + 1) line) p
    ∙ (ap (λ k. 34 ∷ between k (end + 1) line) f
    ∙ (ap (λ (w : List ℕ). 34 ∷ w) (between_last line from end h l ∙ ap (λ k. between from end line ++ k ∷ []) q))))
    in
    subst (λ (w : List ℕ). Quoted w out) (sym e) (quoted s)
