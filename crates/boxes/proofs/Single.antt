-- Where no run that fits has two readings, a record that fits has one at most.
use Rattle.std.proofs.Common.{◌≡◌, ℕ, Bool, List, subst}
use Rattle.boxes.specs.Record.{Read, Alike, spots, spotted}
use Rattle.table.specs.Table.{Tab}
use Rattle.table.specs.Reading.{Twofold, Whole, Reads, same_reading}
use Rattle.record.specs.Record.{IsRecord}
use Rattle.record.specs.Index.{erase}
use Rattle.record.specs.Nodes.{Nodes}
use Rattle.record.proofs.Verdict.{one_verdict}
use native.Mathlib.Decide.{ℕ_discrete}

module _ {C : Type 0} (kinds : C → ℕ → Bool) where
  -- a reading, moved to the same nodes under another name
  moved : (T : Tab C) (bytes : List ℕ) (is : IsRecord bytes) (x : Read kinds T bytes) → Whole kinds T (erase is.nodes)
  moved T bytes is x =
      record {
        state = x.whole.state;
        reading = x.whole.reading;
        starts = x.whole.starts;
        reads =
            subst (λ (n : Nodes). Reads kinds T x.whole.state (erase n) x.whole.reading)
            (one_verdict.one_value bytes x.is is) x.whole.reads;
      }

  -- readings that cannot differ are alike
  pub alike : (T : Tab C) (bytes : List ℕ) (x y : Read kinds T bytes) → ((Alike x y → ⊥) → ⊥) → Alike x y
  alike T bytes x y never = go (ℕ_discrete x.whole.state y.whole.state) (same_reading ℕ_discrete x.whole.reading y.whole.reading)
    where
      go : Dec (x.whole.state ≡ y.whole.state) → Dec (x.whole.reading ≡ y.whole.reading) → Alike x y
      go (yes d) (yes e) = (d, e)
      go (yes d) (no n) = absurd (never (λ s. n s.1))
      go (no n) e = absurd (never (λ s. n s.0))

  pub single : (F P : Tab C) (bytes : List ℕ) → (Twofold kinds F P → ⊥) → Read kinds F bytes → (x y : Read kinds P bytes) → Alike x y
  unfolding moved
  single F P bytes never fit x y =
      alike P bytes x y
      (λ n. never (erase fit.is.nodes, fit.whole, record { one = moved P bytes fit.is x; other = moved P bytes fit.is y; differ = n }))

  -- the same reading marks the same nodes
  pub same_spots : (P : Tab C) (bytes : List ℕ) (m : ℕ) (x y : Read kinds P bytes) → Alike x y → spots m x ≡ spots m y
  same_spots P bytes m x y s = let e = one_verdict.one_value bytes x.is y.is in λ i. spotted P.rules m 0 (e i) (s.1 i)
