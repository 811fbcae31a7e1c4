-- What the count of readings says of a record's bytes.
use Rattle.std.proofs.Common.{◌≡◌, ℕ, zero, suc, ◌<◌, Bool, List, length, sym, refl, ◌∙◌, subst, inl, inr, arith}
use Rattle.record.specs.declared.index.Entry.{Entry}
use Rattle.record.specs.Run.{run_at, Spans}
use Rattle.record.specs.Index.{lowered, shown, IndexedAs}
use Rattle.record.proofs.Indexing.{index_holds}
use Rattle.table.specs.declared.fault.Role.TheVariants.{Pattern}
use Rattle.table.specs.Table.{Tab}
use Rattle.table.specs.Check.{SoundTable}
use Rattle.table.specs.Calls.{Admitted}
use Rattle.table.specs.Reading.{Single, Two, Counts}
use Rattle.table.specs.Marks.{Listed}
use Rattle.boxes.specs.declared.fault.Cause.TheVariants.{NoReading, TwoReadings}
use Rattle.boxes.specs.Fault.{fault}
use Rattle.boxes.specs.Check.{Passes, Fails}
use Rattle.boxes.specs.Record.{Read, Alike}
use Rattle.boxes.specs.Calls.{buffers_checks, read_checks}
use Rattle.boxes.specs.Locate.{ReadOnce}
use Rattle.boxes.proofs.Filing.{read_of, whole_of}
use Rattle.boxes.proofs.Spotting.{noted_spots}

module _ {C : Type 0} (kinds : C → ℕ → Bool) (P : Tab C) {bytes : List ℕ} {list : List Entry} {top : ℕ} (x : IndexedAs bytes list top)
    (index scratch : ℕ) (buffers : Passes (buffers_checks Pattern index scratch)) where
  abbrev RunCounts : ℕ → Type 0
  RunCounts n = Counts kinds P (run_at (shown list top) (lowered list top)) n

  pub no_reading : SoundTable Pattern P → (n : ℕ) → n ≡ 0 → RunCounts n → Fails (read_checks kinds P bytes index scratch) (fault NoReading 0)
  no_reading s n e c = inr (buffers, inr (x.is, inr (s, inl (λ r. subst RunCounts e c (whole_of kinds P x r), refl))))

  two_of : (n : ℕ) → 1 < n → RunCounts n → Two kinds P (run_at (shown list top) (lowered list top))
  two_of zero h c = absurd (omega arith)
  two_of (suc zero) h c = absurd (omega arith)
  two_of (suc (suc zero)) h c = c
  two_of (suc (suc (suc n))) h c = absurd c

  pub two_readings : SoundTable Pattern P → (n : ℕ) → 1 < n → RunCounts n → Fails (read_checks kinds P bytes index scratch) (fault TwoReadings 0)
  two_readings s n h c =
      let t = two_of n h c in
      inr (buffers, inr (x.is, inr (s, inr (read_of kinds P x t.one, inl ((read_of kinds P x t.one, read_of kinds P x t.other, t.differ), refl)))))

  pub once : (sets : List ℕ) → length sets ≡ scratch → Admitted Pattern P (lowered list top) scratch → (n : ℕ) → n ≡ 1 → RunCounts n
      → (n ≡ 1 → Spans (shown list top) 0 (lowered list top) (lowered list top) → Listed kinds P (shown list top) (lowered list top) sets)
      → ReadOnce kinds P bytes index scratch list sets top
  once sets e a j one counts l =
      let c : Single kinds P (run_at (shown list top) (lowered list top)) = subst RunCounts one counts in
      let n = x.count_is in
      let m = x.is.number in
      let r = x.room in
      let w = a.room in
      record {
        passes = (buffers, (x.is, (a.table, (read_of kinds P x c.whole, (λ t. t.2 (same c t.0 t.1), tt)))));
        room = omega arith;
        places = omega arith;
        lists = noted_spots kinds P x sets (l one (index_holds.spans bytes list top x)) c;
      }
    where
      same : Single kinds P (run_at (shown list top) (lowered list top)) → (y z : Read kinds P bytes) → Alike y z
      same c y z =
          let u = c.alone (whole_of kinds P x y) in
          let v = c.alone (whole_of kinds P x z) in
          (sym u.0 ∙ v.0, sym u.1 ∙ v.1)
