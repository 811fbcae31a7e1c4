-- The bytes of nodes one after another.
use Rattle.std.proofs.Common.{◌≡◌, ℕ, ◌+◌, ◌/◌, ◌%◌, ◌^◌, ◌<◌, List, [], ◌∷◌, ◌++◌, length, get_or, vec_items, Vec, sym, refl, ap, ◌∙◌, subst, ap₂, append_assoc, append-nil, arith}
use mathlib.Core.Logic.{∥∥₁_map₂}
use Rattle.record.specs.Nodes.{Nodes, nil, node, bytes_of, Fit}
use Rattle.record.specs.Numbers.{Bytes, le}
use Rattle.std.specs.declared.alloc.Global.{Global}
use Rattle.std.proofs.ByRecursion.{All-from_get_or}
use Rattle.notation.specs.Spelt.{Spelt, node_bytes, Put}

pub le_two : (n : ℕ) → n % 256 ∷ n / 256 % 256 ∷ [] ≡ le 2 n
unfolding le
le_two n = refl

pub le_four : (n : ℕ) → n % 256 ∷ n / 256 % 256 ∷ n / 65536 % 256 ∷ n / 16777216 % 256 ∷ [] ≡ le 4 n
unfolding le
le_four n =
    let a : n / 65536 ≡ n / 256 / 256 = omega arith in
    let b : n / 16777216 ≡ n / 256 / 256 / 256 = omega arith in
    ap₂ (λ (x y : ℕ). n % 256 ∷ n / 256 % 256 ∷ x % 256 ∷ y % 256 ∷ []) a b

pub bytes_typed : (bs : List ℕ) → ((i : ℕ) → get_or bs i 0 < 256) → Bytes bs
bytes_typed bs h = All-from_get_or (λ b. b < 256) bs 0 (λ i l. h i)

-- one run after another
join : Nodes → Nodes → Nodes
join nil n = n
join (node k t i a) n = node k t i (join a n)

join_bytes : (m n : Nodes) → bytes_of (join m n) ≡ bytes_of m ++ bytes_of n
unfolding join bytes_of
join_bytes nil n = refl
join_bytes (node k t i a) n = ap (λ (w : List ℕ). le 4 (4 + length t + length (bytes_of i)) ++ (le 2 k ++ (le 2 (length t) ++ (t ++ (bytes_of i ++ w))))) (join_bytes a n) ∙ simp append_assoc

join_fits : (m n : Nodes) → Fit m → Fit n → Fit (join m n)
unfolding join
join_fits nil n f g = g
join_fits (node k t i a) n f g = (f.0, f.1, f.2, f.3, f.4, join_fits a n f.5 g)

pub spelt_nothing : Spelt []
unfolding bytes_of
spelt_nothing = record { nodes = nil; fits = tt; is = refl }

one_bytes : (k : ℕ) (t : List ℕ) (i : Nodes) → bytes_of (node k t i nil) ≡ node_bytes k t (bytes_of i)
unfolding bytes_of
one_bytes k t i = ap (λ (w : List ℕ). le 4 (4 + length t + length (bytes_of i)) ++ (le 2 k ++ (le 2 (length t) ++ (t ++ w)))) (append-nil (bytes_of i))

-- a node after a run is a run
pub spelt_put : (before after : Vec ℕ Global) (kind : ℕ) (text inside : List ℕ) → Spelt (vec_items before) → Spelt inside → Put before after kind text inside → Spelt (vec_items after)
spelt_put before after kind text inside b i p =
    let size : 4 + length text + length (bytes_of i.nodes) < 2 ^ 32 = subst (λ (w : List ℕ). 4 + length text + length w < 2 ^ 32) (sym i.is) p.size_fits in
    let one = node kind text i.nodes nil in
    let fit : Fit one = (p.kind_fits, p.text_bytes, p.text_fits, size, i.fits, tt) in
    record {
      nodes = join b.nodes one;
      fits = join_fits b.nodes one b.fits fit;
      is =
          join_bytes b.nodes one
          ∙ (ap₂ (λ (v w : List ℕ). v ++ w) b.is (one_bytes kind text i.nodes ∙ ap (node_bytes kind text) i.is) ∙ sym p.is);
    }

pub spelt_empty : (bytes : List ℕ) → bytes ≡ [] → ∥ Spelt bytes ∥₁
spelt_empty bytes e = ∣ subst Spelt (sym e) spelt_nothing ∣₁

pub spelt_after : (before after : Vec ℕ Global) (kind : ℕ) (text inside : List ℕ) → ∥ Spelt (vec_items before) ∥₁ → ∥ Spelt inside ∥₁ → Put before after kind text inside → ∥ Spelt (vec_items after) ∥₁
spelt_after before after kind text inside b i p =
    ∥∥₁_map₂ b i (λ x y. spelt_put before after kind text inside x y p)

-- the parts of a node one after another
pub five : (a b c d e f p q r s t size kind words : List ℕ) → p ≡ size → q ≡ kind → r ≡ words → b ≡ a ++ p → c ≡ b ++ q → d ≡ c ++ r → e ≡ d ++ s → f ≡ e ++ t → f ≡ a ++ (size ++ (kind ++ (words ++ (s ++ t))))
five a b c d e f p q r s t size kind words x y z g h i j k =
    k
    ∙ (ap (λ (w : List ℕ). w ++ t)
    (j ∙ ap (λ (w : List ℕ). w ++ s) (i ∙ ap₂ (λ (v w : List ℕ). v ++ w) (h ∙ ap₂ (λ (v w : List ℕ). v ++ w) (g ∙ ap (λ (w : List ℕ). a ++ w) x) y) z))
    ∙ simp append_assoc)
