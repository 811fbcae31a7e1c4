-- Parts of a list of bytes.
use Rattle.std.proofs.Common.{◌≡◌, ℕ, suc, ◌+◌, ◌-◌, ◌<◌, ◌≤◌, List, [], ◌∷◌, ◌++◌, length, get_or, take, drop, sym, refl, ap, ◌∙◌, ap₂, arith, length-append, length-drop, length-take}
use Rattle.std.proofs.lemmas.List.{drop_more, take_at, drop_at, take-take, drop-drop, drop-take, take-append-drop, take_all}
use Rattle.std.proofs.ByRecursion.{All-take, All-drop}
use Rattle.record.specs.Numbers.{Bytes, between}

pub between_length : (bytes : List ℕ) (a b : ℕ) → b ≤ length bytes → length (between bytes a b) ≡ b - a
unfolding between
between_length bytes a b h = simp (length-take, length-drop) (omega arith)

pub between_bytes : (bytes : List ℕ) (a b : ℕ) → Bytes bytes → Bytes (between bytes a b)
unfolding between
between_bytes bytes a b h = All-take (λ x. x < 256) (b - a) (drop a bytes) (All-drop (λ x. x < 256) a bytes h)

pub between_all : (bytes : List ℕ) → between bytes 0 (length bytes) ≡ bytes
unfolding between
between_all bytes = take_all (length bytes - 0) bytes (omega arith)

pub between_none : (bytes : List ℕ) (a b : ℕ) → b ≤ a → between bytes a b ≡ []
unfolding between
between_none bytes a b h = let e : b - a ≡ 0 = omega arith in rw e refl

pub between_more : (bytes : List ℕ) (a b : ℕ) → a < b → b ≤ length bytes → between bytes a b ≡ get_or bytes a 0 ∷ between bytes (a + 1) b
unfolding between
between_more bytes a b h l =
    let e : b - a ≡ suc (b - (a + 1)) = omega arith in
    ap (λ n. take n (drop a bytes)) e ∙ ap (take (suc (b - (a + 1)))) (drop_more bytes a 0 (omega arith))

-- a front of a part is a part, and so is the rest
pub between_front : (bytes : List ℕ) (a b c : ℕ) → a ≤ b → b ≤ c → take (b - a) (between bytes a c) ≡ between bytes a b
unfolding between
between_front bytes a b c h g = take-take (b - a) (c - a) (drop a bytes) (omega arith)

pub between_rest : (bytes : List ℕ) (a b c : ℕ) → a ≤ b → b ≤ c → drop (b - a) (between bytes a c) ≡ between bytes b c
unfolding between
between_rest bytes a b c h g =
    let e : c - a ≡ (b - a) + (c - b) = omega arith in
    let f : a + (b - a) ≡ b = omega arith in
    ap (λ n. drop (b - a) (take n (drop a bytes))) e
    ∙ (drop-take (b - a) (c - b) (drop a bytes) ∙ ap (take (c - b)) (drop-drop (b - a) a bytes ∙ ap (λ n. drop n bytes) f))

pub between_split : (bytes : List ℕ) (a b c : ℕ) → a ≤ b → b ≤ c → between bytes a c ≡ between bytes a b ++ between bytes b c
between_split bytes a b c h g =
    sym (take-append-drop (b - a) (between bytes a c)) ∙ ap₂ ◌++◌ (between_front bytes a b c h g) (between_rest bytes a b c h g)

-- a part that is two lists after one another is cut between them
pub record Cut (bytes : List ℕ) (a b c : ℕ) (xs ys : List ℕ) : Type 0 where
  pub fits : b ≤ c
  pub front : between bytes a b ≡ xs
  pub rest : between bytes b c ≡ ys

pub cut : (bytes : List ℕ) (a b c : ℕ) (xs ys : List ℕ) → a ≤ c → c ≤ length bytes → between bytes a c ≡ xs ++ ys → a + length xs ≡ b → Cut bytes a b c xs ys
cut bytes a b c xs ys h l e g =
    let len : c - a ≡ length xs + length ys = sym (between_length bytes a c l) ∙ (ap length e ∙ length-append xs ys) in
    let fit : b ≤ c = omega arith in
    let up : a ≤ b = omega arith in
    let n : length xs ≡ b - a = omega arith in
    record {
      fits = fit;
      front = sym (between_front bytes a b c up fit) ∙ (ap (take (b - a)) e ∙ take_at xs ys (b - a) n);
      rest = sym (between_rest bytes a b c up fit) ∙ (ap (drop (b - a)) e ∙ drop_at xs ys (b - a) n);
    }

-- appended lists with fronts of one length
pub append_parts : (xs ys us vs : List ℕ) → length xs ≡ length us → xs ++ ys ≡ us ++ vs → (xs ≡ us) × (ys ≡ vs)
append_parts xs ys us vs h e = (
  sym (take_at xs ys (length us) h) ∙ (ap (take (length us)) e ∙ take_at us vs (length us) refl),
  sym (drop_at xs ys (length us) h) ∙ (ap (drop (length us)) e ∙ drop_at us vs (length us) refl),
)
