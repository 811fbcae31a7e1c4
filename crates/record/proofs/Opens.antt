-- What the bytes of a node say at its offset.
use Rattle.std.proofs.Common.{◌≡◌, ℕ, ◌+◌, ◌≤◌, List, length, sym, ap, ◌∙◌, arith}
use Rattle.record.specs.Numbers.{le, value, between}
use Rattle.record.specs.Nodes.{Nodes, node, bytes_of, count, Fit}
use Rattle.record.specs.Record.{size_at, text_at, inside_at, end_at, Sound, Holds}
use Rattle.record.specs.Parse.{kind_at}
use Rattle.record.proofs.Numbers.{length_le, value_le}
use Rattle.record.proofs.Slices.{cut}

abbrev pub body_at : List ℕ → ℕ → List ℕ
body_at bytes o = between bytes (o + 8) (inside_at bytes o)

pub record Opens (bytes : List ℕ) (o end k : ℕ) (t : List ℕ) (i a : Nodes) : Type 0 where
  pub size : size_at bytes o ≡ 4 + length t + length (bytes_of i)
  pub kind : kind_at bytes o ≡ k
  pub text : text_at bytes o ≡ length t
  pub fits : end_at bytes o ≤ end
  pub body : body_at bytes o ≡ t
  pub inner : between bytes (inside_at bytes o) (end_at bytes o) ≡ bytes_of i
  pub rest : between bytes (end_at bytes o) end ≡ bytes_of a

pub opens : (bytes : List ℕ) (o end k : ℕ) (t : List ℕ) (i a : Nodes) → Fit (node k t i a) → o ≤ end → end ≤ length bytes
    → between bytes o end ≡ bytes_of (node k t i a) → Opens bytes o end k t i a
unfolding bytes_of
opens bytes o end k t i a f h l e =
    let s : ℕ = 4 + length t + length (bytes_of i) in
    let c₁ = cut bytes o (o + 4) end (le 4 s) _ h l e (ap (λ n. o + n) (length_le 4 s)) in
    let c₂ = cut bytes (o + 4) (o + 6) end (le 2 k) _ c₁.fits l c₁.rest (omega (arith, length_le 2 k)) in
    let c₃ = cut bytes (o + 6) (o + 8) end (le 2 (length t)) _ c₂.fits l c₂.rest (omega (arith, length_le 2 (length t))) in
    let size : size_at bytes o ≡ s = ap value c₁.front ∙ value_le 4 s f.3 in
    let text : text_at bytes o ≡ length t = ap value c₃.front ∙ value_le 2 (length t) f.2 in
    let c₄ = cut bytes (o + 8) (inside_at bytes o) end t _ c₃.fits l c₃.rest (omega arith) in
    let c₅ = cut bytes (inside_at bytes o) (end_at bytes o) end (bytes_of i) (bytes_of a) c₄.fits l c₄.rest (omega arith) in
    record {
      size = size;
      kind = ap value c₂.front ∙ value_le 2 k f.0;
      text = text;
      fits = c₅.fits;
      body = c₄.front;
      inner = c₅.front;
      rest = c₅.rest;
    }

-- a node within the limits is sound, and so are its inside and what comes after it
pub record Split (bytes : List ℕ) (o end level before k : ℕ) (t : List ℕ) (i a : Nodes) : Type 0 where
  pub open' : Opens bytes o end k t i a
  pub sound : Sound bytes o end level before
  pub inner : Holds bytes (inside_at bytes o) (end_at bytes o) (level + 1) (before + 1) i
  pub rest : Holds bytes (end_at bytes o) end level (before + 1 + count i) a

pub split : (bytes : List ℕ) (o end level before k : ℕ) (t : List ℕ) (i a : Nodes) → Holds bytes o end level before (node k t i a) → o ≤ end → end ≤ length bytes
    → Split bytes o end level before k t i a
split bytes o end level before k t i a h u l =
    let x : Opens bytes o end k t i a = opens bytes o end k t i a h.fits u l (sym h.spelt) in
    let d = h.depth in
    let m = h.number in
    record {
      open' = x;
      sound = omega arith;
      inner = record { fits = h.fits.4; spelt = sym x.inner; depth = omega arith; number = omega arith };
      rest = record { fits = h.fits.5; spelt = sym x.rest; depth = omega arith; number = omega arith };
    }
