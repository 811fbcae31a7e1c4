-- Runs of nodes with the same bytes are the same.
use Rattle.std.proofs.Common.{◌≡◌, ℕ, ◌+◌, ◌^◌, ◌<◌, List, ◌++◌, length, sym, refl, ap, ◌∙◌, arith, length-append}
use Rattle.record.specs.Numbers.{le, value}
use Rattle.record.specs.Nodes.{Nodes, nil, node, bytes_of, Injective}
use Rattle.record.proofs.Numbers.{length_le, value_le}
use Rattle.record.proofs.Slices.{append_parts}

pub node_length : (k : ℕ) (t : List ℕ) (i a : Nodes) → length (bytes_of (node k t i a)) ≡ 8 + length t + length (bytes_of i) + length (bytes_of a)
unfolding bytes_of
node_length k t i a = simp (length-append, length_le) (omega arith)

-- a number that fits is told by its bytes
told : (k m n : ℕ) → m < 256 ^ k → n < 256 ^ k → le k m ≡ le k n → m ≡ n
told k m n h g e = sym (value_le k m h) ∙ (ap value e ∙ value_le k n g)

fields : (k m n : ℕ) (xs ys : List ℕ) → le k m ++ xs ≡ le k n ++ ys → (le k m ≡ le k n) × (xs ≡ ys)
fields k m n xs ys e = append_parts (le k m) xs (le k n) ys (length_le k m ∙ sym (length_le k n)) e

pub injective_holds : Injective
unfolding bytes_of
injective_holds nil nil f g e = refl
injective_holds nil (node k t i a) f g e = let l = ap length e ∙ node_length k t i a in absurd (omega arith)
injective_holds (node k t i a) nil f g e = let l = sym (node_length k t i a) ∙ ap length e in absurd (omega arith)
injective_holds (node k t i a) (node k' t' i' a') f g e =
    let p = fields 4 (4 + length t + length (bytes_of i)) (4 + length t' + length (bytes_of i')) _ _ e in
    let q = fields 2 k k' _ _ p.1 in
    let r = fields 2 (length t) (length t') _ _ q.1 in
    let size : 4 + length t + length (bytes_of i) ≡ 4 + length t' + length (bytes_of i') = told 4 _ _ f.3 g.3 p.0 in
    let kind : k ≡ k' = told 2 k k' f.0 g.0 q.0 in
    let long : length t ≡ length t' = told 2 (length t) (length t') f.2 g.2 r.0 in
    let s = append_parts t _ t' _ long r.1 in
    let u = append_parts (bytes_of i) (bytes_of a) (bytes_of i') (bytes_of a') (omega arith) s.1 in
    let x = injective_holds i i' f.4 g.4 u.0 in
    let y = injective_holds a a' f.5 g.5 u.1 in
    λ j. node (kind j) (s.0 j) (x j) (y j)
