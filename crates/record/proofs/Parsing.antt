-- The steps of parsing a run.
use Rattle.std.proofs.Common.{ℕ, suc, ◌+◌, ◌<◌, ◌≤◌, List, [], ◌∷◌, length, get_or, sym, refl, ◌∙◌, subst, arith}
use Rattle.record.specs.declared.parse.Head.{Head}
use Rattle.record.specs.declared.parse.Passed.{Passed}
use Rattle.record.specs.declared.fault.Flaw.{Flaw}
use Rattle.record.specs.Fault.{flawed}
use Rattle.record.specs.Limits.{max_bytes}
use Rattle.record.specs.Numbers.{Bytes}
use Rattle.record.specs.Nodes.{Nodes, nil, node, bytes_of, count}
use Rattle.record.specs.Record.{inside_at, end_at, Called, Sound, Holds, first, inside, after, Faulty}
use Rattle.record.specs.Parse.{kind_at, Opened, Ready, RunParsed, NodeParsed, Recorded}
use Rattle.record.proofs.Slices.{between_none, between_all}
use Rattle.record.proofs.Opens.{body_at}
use Rattle.record.proofs.Total.{made}

module _ {bytes : List ℕ} {o end level before : ℕ} (r : Ready bytes o end level before) where
  -- an empty run
  pub run_none : end ≤ o → RunParsed bytes o end level before before
  run_none h =
      let a = r.level_fits in
      let b = r.number_fits in
      record {
        nodes = nil;
        holds = record { fits = tt; spelt = unfold bytes_of in sym (between_none bytes o end h); depth = omega arith; number = omega arith };
        count_is = omega arith;
      }

  pub faulty : o < end → (f : Flaw) → Called bytes o end level before f → Faulty bytes (flawed f o)
  faulty h f c = record { size = r.short; offset = o; end = end; level = level; before = before; due = r.due h; flaw = f; called = c; is = refl }

  ready_in : o < end → Sound bytes o end level before → Ready bytes (inside_at bytes o) (end_at bytes o) (level + 1) (before + 1)
  ready_in h s =
      let a = s.level_fits in
      let b = s.number_fits in
      let c = s.size_fits in
      let d = r.fits in
      record { all = r.all; short = r.short; up = s.text_fits; fits = omega arith; level_fits = omega arith; number_fits = omega arith; due = λ g. inside (r.due h) s g }

  -- the inside of a sound node may be parsed
  pub ready_inside : o < end → {h : Head} → Opened bytes o end level before h → Ready bytes h.inside h.end (level + 1) (before + 1)
  ready_inside g {h} w = rw (w.headed.inside_is, w.headed.end_is) (ready_in g w.sound)

  ready_next : o < end → (s : Sound bytes o end level before) (i : Nodes) → Holds bytes (inside_at bytes o) (end_at bytes o) (level + 1) (before + 1) i
      → Ready bytes (end_at bytes o) end level (before + 1 + count i)
  ready_next h s i x =
      let a = x.number in
      record { all = r.all; short = r.short; up = s.size_fits; fits = r.fits; level_fits = r.level_fits; number_fits = a; due = λ g. after i (r.due h) s x g }

  -- what comes after a node that was parsed may be parsed
  pub ready_after : o < end → {p : Passed} → NodeParsed bytes o end level before p → Ready bytes p.next end level p.count
  ready_after g {p} w = rw (w.next_is, w.count_is) (ready_next g w.sound w.inner w.holds)

  -- a node and the run after it
  pub run_more : {p : Passed} {n : ℕ} → NodeParsed bytes o end level before p → RunParsed bytes p.next end level p.count n → RunParsed bytes o end level before n
  run_more {p} {n} w v =
      let P : ℕ → ℕ → Type 0 = λ x y. Holds bytes x end level y v.nodes in
      let h₁ : Holds bytes (end_at bytes o) end level p.count v.nodes = subst (λ x. P x p.count) w.next_is v.holds in
      let h₂ : Holds bytes (end_at bytes o) end level (before + 1 + count w.inner) v.nodes = subst (λ y. P (end_at bytes o) y) w.count_is h₁ in
      let e = v.count_is in
      let f = w.count_is in
      record {
        nodes = node (kind_at bytes o) (body_at bytes o) w.inner v.nodes;
        holds = made bytes r.all r.short o end level before w.sound r.fits w.inner v.nodes w.holds h₂;
        count_is = omega arith;
      }

-- a sound node whose inside was parsed
pub node_parsed : {bytes : List ℕ} {o end level before n : ℕ} {h : Head} → Opened bytes o end level before h → RunParsed bytes h.inside h.end (level + 1) (before + 1) n
    → NodeParsed bytes o end level before (record { next = h.end; count = n })
node_parsed {bytes} {o} {end} {level} {before} {n} {h} w v =
    record {
      sound = w.sound;
      inner = v.nodes;
      holds = subst (λ x. Holds bytes x (end_at bytes o) (level + 1) (before + 1) v.nodes) w.headed.inside_is
          (subst (λ x. Holds bytes h.inside x (level + 1) (before + 1) v.nodes) w.headed.end_is v.holds);
      next_is = w.headed.end_is;
      count_is = v.count_is;
    }

-- what a slice of bytes is known to hold
pub bytes_from : (bs : List ℕ) → ((i : ℕ) → get_or bs i 0 < 256) → Bytes bs
bytes_from [] h = tt
bytes_from (b ∷ bs) h = (h 0, bytes_from bs (λ i. h (suc i)))

pub ready_first : (bytes : List ℕ) → Bytes bytes → length bytes ≤ max_bytes → Ready bytes 0 (length bytes) 1 0
ready_first bytes h s = record { all = h; short = s; up = omega arith; fits = omega arith; level_fits = omega arith; number_fits = omega arith; due = λ g. first g }

pub recorded : {bytes : List ℕ} {n : ℕ} → length bytes ≤ max_bytes → RunParsed bytes 0 (length bytes) 1 0 n → Recorded bytes n
recorded {bytes} s r =
    let d = r.holds.depth in
    let c = r.holds.number in
    let e = r.count_is in
    record {
      is = record { nodes = r.nodes; fits = r.holds.fits; spelt = r.holds.spelt ∙ between_all bytes; size = s; number = omega arith; depth = omega arith };
      count_is = omega arith;
    }
