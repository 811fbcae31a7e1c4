-- The steps of seeking a node by its offset.
use Rattle.std.proofs.Common.{◌≡◌, ℕ, ◌+◌, ◌<◌, ◌≤◌, List, length, sym, ap, ◌∙◌, inl, inr, arith}
use Rattle.record.specs.declared.parse.Head.{Head}
use Rattle.record.specs.Numbers.{between}
use Rattle.record.specs.Nodes.{Nodes, nil, node, bytes_of}
use Rattle.record.specs.Record.{IsRecord}
use Rattle.record.specs.Index.{span}
use Rattle.record.specs.Parse.{Headed}
use Rattle.record.specs.Fill.{Spelt}
use Rattle.record.specs.Text.{Starts, Unstarted, Found, Seeking}
use Rattle.record.proofs.Injective.{node_length}
use Rattle.record.proofs.Slices.{between_all}
use Rattle.record.proofs.Begins.{Begins, begins, empty_none, node_room}

-- a node starts within its run
pub starts_in : (n : Nodes) (base o : ℕ) (s : List ℕ) → Starts base n o s → (base ≤ o) × (o < base + length (bytes_of n))
starts_in nil base o s h = absurd h
starts_in (node k t i a) base o s (inl h) = let e = h.0 in let l = node_length k t i a in (omega arith, omega arith)
starts_in (node k t i a) base o s (inr (inl h)) = let g = starts_in i (base + 8 + length t) o s h in let l = node_length k t i a in (omega arith, omega arith)
starts_in (node k t i a) base o s (inr (inr h)) = let g = starts_in a (base + span t i) o s h in let l = node_length k t i a in (omega arith, omega arith)

pub seek_first : (bytes : List ℕ) (o : ℕ) → IsRecord bytes → Seeking bytes o 0 (length bytes)
seek_first bytes o r =
    record { is = r; nodes = r.nodes; spelt = record { fits = r.fits; spelt = between_all bytes ∙ sym r.spelt }; up = omega arith; fits = omega arith; there = λ s h. h; back = λ s h. h }

pub record Steps (bytes : List ℕ) (o at end : ℕ) : Type 0 where
  pub head_fits : at + 8 ≤ length bytes
  pub falls : {h : Head} → Headed bytes at h → (at < h.inside) × (h.inside ≤ h.end) × (h.end ≤ end)
  pub found : {h : Head} → Headed bytes at h → o ≡ at → Found bytes o h
  pub inward : {h : Head} → Headed bytes at h → (o ≡ at → ⊥) → o < h.end → Seeking bytes o h.inside h.end
  pub onward : {h : Head} → Headed bytes at h → (o ≡ at → ⊥) → h.end ≤ o → Seeking bytes o h.end end

module _ {bytes : List ℕ} {o at end : ℕ} (lt : at < end) (is : IsRecord bytes) (fits : end ≤ length bytes) where
  module _ (k : ℕ) (t : List ℕ) (i a : Nodes) (p : Spelt bytes at end (node k t i a))
      (there : (s : List ℕ) → Starts at (node k t i a) o s → Starts 0 is.nodes o s) (back : (s : List ℕ) → Starts 0 is.nodes o s → Starts at (node k t i a) o s)
      {h : Head} (d : Headed bytes at h) where
    at_node : Begins bytes at end h k t i a
    at_node = begins p (omega arith) fits d

    find : o ≡ at → Found bytes o h
    find e =
        let b = at_node in
        let x = b.inside_is in
        let y = b.end_is in
        let z = b.fits in
        let body : between bytes (o + 8) h.inside ≡ t = ap (λ n. between bytes (n + 8) h.inside) e ∙ (ap (between bytes (at + 8)) d.inside_is ∙ b.body) in
        record { from = omega arith; to = omega arith; texted = record { is = is; starts = there (between bytes (o + 8) h.inside) (inl (e, body)) } }

    go_in : (o ≡ at → ⊥) → o < h.end → Seeking bytes o h.inside h.end
    go_in ne l =
        let b = at_node in
        let x = b.inside_is in
        let y = b.end_is in
        let z = b.fits in
        record {
          is = is;
          nodes = i;
          spelt = b.inner;
          up = omega arith;
          fits = omega arith;
          there = λ s g. there s (inr (inl (rw b.inside_is at g)));
          back = λ s g. rw b.inside_is (elim (back s g) [
            | inl q ↦ absurd (ne q.0)
            | inr (inl q) ↦ q
            | inr (inr q) ↦ let w = starts_in a (at + span t i) o s q in absurd (omega arith)
          ]);
        }

    go_on : (o ≡ at → ⊥) → h.end ≤ o → Seeking bytes o h.end end
    go_on ne l =
        let b = at_node in
        let x = b.inside_is in
        let y = b.end_is in
        let z = b.fits in
        record {
          is = is;
          nodes = a;
          spelt = b.rest;
          up = z;
          fits = fits;
          there = λ s g. there s (inr (inr (rw b.end_is at g)));
          back = λ s g. rw b.end_is (elim (back s g) [
            | inl q ↦ absurd (ne q.0)
            | inr (inl q) ↦ let w = starts_in i (at + 8 + length t) o s q in absurd (omega arith)
            | inr (inr q) ↦ q
          ]);
        }

    falling : (at < h.inside) × (h.inside ≤ h.end) × (h.end ≤ end)
    falling = let b = at_node in let x = b.inside_is in let y = b.end_is in let z = b.fits in (omega arith, omega arith, z)

  steps_at : (n : Nodes) → Spelt bytes at end n → ((s : List ℕ) → Starts at n o s → Starts 0 is.nodes o s) → ((s : List ℕ) → Starts 0 is.nodes o s → Starts at n o s) → Steps bytes o at end
  steps_at nil p there back = let z = empty_none p (omega arith) fits in absurd (omega arith)
  steps_at (node k t i a) p there back =
      let r = node_room p (omega arith) fits in
      record {
        head_fits = omega arith;
        falls = λ {h} d. falling k t i a p there back d;
        found = λ {h} d e. find k t i a p there back d e;
        inward = λ {h} d e l. go_in k t i a p there back d e l;
        onward = λ {h} d e l. go_on k t i a p there back d e l;
      }

pub steps : {bytes : List ℕ} {o at end : ℕ} → at < end → Seeking bytes o at end → Steps bytes o at end
steps lt s = steps_at lt s.is s.fits s.nodes s.spelt s.there s.back

-- nothing is left to seek in
gone : {bytes : List ℕ} {at end : ℕ} (o : ℕ) (n : Nodes) → Spelt bytes at end n → at ≤ end → end ≤ length bytes → end ≤ at → (s : List ℕ) → Starts at n o s → ⊥
gone o nil p u l h s g = g
gone o (node k t i a) p u l h s g = let z = node_room p u l in omega arith

pub unstarted : {bytes : List ℕ} {o at end : ℕ} → end ≤ at → Seeking bytes o at end → Unstarted bytes o
unstarted {o = o} h s = record { is = s.is; none = λ t g. gone o s.nodes s.spelt s.up s.fits h t (s.back t g) }
