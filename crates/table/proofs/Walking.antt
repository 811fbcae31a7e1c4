-- A walk over a run under a table.
use Rattle.std.proofs.Common.{◌≡◌, ℕ, subst}

-- what holds of a walk's table, run and top place holds of those that it was made of
pub of_walk : {A B : Type 0} {t t' : A} {r r' : B} {n : ℕ} (P : A → B → ℕ → Type 0) (highest : B → ℕ) → t ≡ t' → r ≡ r' → n ≡ highest r → P t r n → P t' r' (highest r')
of_walk {t = t} {r = r} {r' = r'} P highest et er en x =
    subst (λ z. P z r' (highest r')) et (subst (λ z. P t z (highest z)) er (subst (P t r) en x))
