-- A run that is not empty begins with a node.
use Rattle.std.proofs.Common.{◌≡◌, ℕ, ◌+◌, ◌<◌, ◌≤◌, List, length, sym, refl, ap, ◌∙◌, arith}
use Rattle.record.specs.declared.parse.Head.{Head}
use Rattle.record.specs.Nodes.{Nodes, nil, node, bytes_of, count}
use Rattle.record.specs.Index.{span, place}
use Rattle.record.specs.Parse.{Headed}
use Rattle.record.specs.Fill.{Spelt}
use Rattle.record.proofs.Injective.{node_length}
use Rattle.record.proofs.Slices.{between_length}
use Rattle.record.proofs.Opens.{body_at, Opens, opens}

-- what a head says of the node that stands there
pub record Begins (bytes : List ℕ) (at end : ℕ) (h : Head) (k : ℕ) (t : List ℕ) (i a : Nodes) : Type 0 where
  pub kind_is : h.kind ≡ k
  pub inside_is : h.inside ≡ at + 8 + length t
  pub end_is : h.end ≡ at + span t i
  pub fits : h.end ≤ end
  pub body : body_at bytes at ≡ t
  pub inner : Spelt bytes h.inside h.end i
  pub rest : Spelt bytes h.end end a

pub spelt_length : {bytes : List ℕ} {at end : ℕ} {n : Nodes} → Spelt bytes at end n → at ≤ end → end ≤ length bytes → at + length (bytes_of n) ≡ end
spelt_length {bytes} {at} {end} s u l = let e = between_length bytes at end l in let f = ap length s.spelt in omega arith

pub empty_none : {bytes : List ℕ} {at end : ℕ} → Spelt bytes at end nil → at ≤ end → end ≤ length bytes → at ≡ end
unfolding bytes_of
empty_none s u l = let e = spelt_length s u l in omega arith

pub node_room : {bytes : List ℕ} {at end k : ℕ} {t : List ℕ} {i a : Nodes} → Spelt bytes at end (node k t i a) → at ≤ end → end ≤ length bytes → at + 8 ≤ end
node_room {k = k} {t} {i} {a} s u l = let e = spelt_length s u l in let f = node_length k t i a in omega arith

pub begins : {bytes : List ℕ} {at end k : ℕ} {t : List ℕ} {i a : Nodes} {h : Head} → Spelt bytes at end (node k t i a) → at ≤ end → end ≤ length bytes → Headed bytes at h
    → Begins bytes at end h k t i a
begins {bytes} {at} {end} {k} {t} {i} {a} {h} s u l d =
    let o : Opens bytes at end k t i a = opens bytes at end k t i a s.fits u l s.spelt in
    let x = o.size in
    let y = o.text in
    let z = o.fits in
    let p = d.inside_is in
    let q = d.end_is in
    record {
      kind_is = d.kind_is ∙ o.kind;
      inside_is = omega arith;
      end_is = omega arith;
      fits = omega arith;
      body = o.body;
      inner = rw (d.inside_is, d.end_is) (record { fits = s.fits.4; spelt = o.inner });
      rest = rw d.end_is (record { fits = s.fits.5; spelt = o.rest });
    }

-- the place of a run's first node, by whether the run has bytes
pub place_some : {bytes : List ℕ} {at end : ℕ} (base p : ℕ) (n : Nodes) → Spelt bytes at end n → end ≤ length bytes → base + count n ≡ p → at < end → p ≡ place base n
place_some {bytes} {at} {end} base p nil s l e h = let z = empty_none s (omega arith) l in absurd (omega arith)
place_some base p (node k t i a) s l e h = sym e

pub place_none : {bytes : List ℕ} {at end : ℕ} (base : ℕ) (n : Nodes) → Spelt bytes at end n → at ≤ end → end ≤ length bytes → end ≤ at → 0 ≡ place base n
place_none base nil s u l h = refl
place_none {bytes} {at} {end} base (node k t i a) s u l h = let z = node_room s u l in absurd (omega arith)
