-- Texts in quotes: which bytes they spell.
use Rattle.std.specs.Prelude.{◌≡◌, ℕ, ◌+◌, ◌*◌, ◌/◌, ◌%◌, ◌<◌, ◌≤◌, ◌⊎◌, List, [], ◌∷◌, ◌++◌, ◌≢◌}

-- a hexadecimal digit, in small or large letters, and its value
abbrev pub Hex : ℕ → ℕ → Type 0
Hex d v = ((v < 10) × (d ≡ 48 + v)) ⊎ ((10 ≤ v) × (v < 16) × ((d ≡ 87 + v) ⊎ (d ≡ 55 + v)))

-- two hexadecimal digits, and the byte that they write
abbrev pub HexByte : ℕ → ℕ → ℕ → Type 0
HexByte h l b = Hex h (b / 16) × Hex l (b % 16)

-- a letter after a backslash, and the byte that it stands for
abbrev pub Escape : ℕ → ℕ → Type 0
Escape l b = ((l ≡ 34) × (b ≡ 34)) ⊎ (((l ≡ 92) × (b ≡ 92)) ⊎ (((l ≡ 110) × (b ≡ 10)) ⊎ ((l ≡ 116) × (b ≡ 9))))

-- how one byte of a text is spelt: as it is, by a letter after a backslash, or by two hexadecimal digits after \x
pub data Byte : List ℕ → ℕ → Type 0 where
  plain : {b : ℕ} → (b ≢ 34) → (b ≢ 92) → Byte (b ∷ []) b
  letter : {l b : ℕ} → Escape l b → Byte (92 ∷ l ∷ []) b
  hex : {h l a b : ℕ} → Hex h a → Hex l b → Byte (92 ∷ 120 ∷ h ∷ l ∷ []) (16 * a + b)

-- what stands between the quotes, and the bytes that it spells
pub data Spells : List ℕ → List ℕ → Type 0 where
  none : Spells [] []
  more : {p s out : List ℕ} {b : ℕ} → Byte p b → Spells s out → Spells (p ++ s) (b ∷ out)

-- a text in quotes
pub data Quoted : List ℕ → List ℕ → Type 0 where
  quoted : {s out : List ℕ} → Spells s out → Quoted (34 ∷ s ++ 34 ∷ []) out
