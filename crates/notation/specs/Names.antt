-- The names of kinds and marks.
use Rattle.std.specs.Prelude.{◌≡◌, ℕ, ◌⊎◌, List, [], ◌∷◌, string_bytes, ◌≢◌}
use Rattle.notation.specs.declared.value.Name.{Name}
use Rattle.notation.specs.Number.{written}

-- a word names a number
abbrev pub Calls : List Name → List ℕ → ℕ → Type 0
Calls [] word number = ⊥
Calls (n ∷ ns) word number = ((string_bytes n.word ≡ word) × (n.number ≡ number)) ⊎ Calls ns word number

-- no word names a number
abbrev pub Unnamed : List Name → ℕ → Type 0
Unnamed [] number = Unit {0}
Unnamed (n ∷ ns) number = (n.number ≢ number) × Unnamed ns number

-- how a number is written: by a name, or in decimal if it has none
abbrev pub Called : List Name → ℕ → List ℕ → Type 0
Called names number word = Calls names word number ⊎ (Unnamed names number × (word ≡ written number))
