-- The run of an indexed record is that of its bytes.
use Rattle.std.proofs.Common.{ℕ, ◌≤◌, Bool, true, false, Result, List, [], ◌∷◌, ◌++◌, length, Ok, Err, sym, refl, ap, ◌∙◌, subst, inl, inr, arith}
use Rattle.record.specs.declared.index.Entry.{Entry}
use Rattle.record.specs.Run.{Run, run_at}
use Rattle.record.specs.Index.{erase, lowered, shown, IndexedAs}
use Rattle.record.proofs.Verdict.{one_verdict}
use Rattle.table.specs.declared.fault.Role.{Role}
use Rattle.table.specs.declared.fault.Role.TheVariants.{Form}
use Rattle.std.specs.Result.{result_unwrap_or}
use Rattle.table.specs.declared.fault.Fault.{Fault as TableFault}
use Rattle.boxes.specs.declared.fault.Fault.{Fault}
use Rattle.boxes.specs.Stage.{Checked}
use Rattle.std.specs.Bool.{IsTrue}
use Rattle.std.proofs.lemmas.Bool.{true≢false}
use Rattle.table.specs.Check.{SoundTable}
use Rattle.table.specs.Calls.{Refused, FitsAnswer}
use Rattle.table.proofs.Outcomes.{one_check}
use Rattle.table.specs.Table.{Tab}
use Rattle.table.specs.Reading.{Reads, Whole}
use Rattle.boxes.specs.Limits.{scratch_needs}
use Rattle.boxes.specs.Record.{Read}
use Rattle.boxes.specs.Check.{Check, unless, each}
use Rattle.boxes.specs.Shelf.{World}
use Rattle.boxes.specs.Fault.{fault}
use Rattle.boxes.specs.declared.fault.Cause.TheVariants.{NoFit}
use Rattle.boxes.specs.Calls.{table_check, record_check, buffers_checks, file_room_checks}
use Rattle.boxes.proofs.Lawful.{error_apart}

module _ {C : Type 0} (kinds : C → ℕ → Bool) (T : Tab C) {bytes : List ℕ} {list : List Entry} {top : ℕ} (x : IndexedAs bytes list top) where
  abbrev pub read_of : Whole kinds T (run_at (shown list top) (lowered list top)) → Read kinds T bytes
  read_of w =
      record {
        is = x.is;
        whole = record { state = w.state; reading = w.reading; starts = w.starts; reads = subst (λ (v : Run). Reads kinds T w.state v w.reading) x.whole w.reads };
      }

  abbrev pub whole_of : Read kinds T bytes → Whole kinds T (run_at (shown list top) (lowered list top))
  whole_of r =
      record {
        state = r.whole.state;
        reading = r.whole.reading;
        starts = r.whole.starts;
        reads =
            subst (λ (w : Run). Reads kinds T r.whole.state w r.whole.reading) (ap erase (one_verdict.one_value bytes r.is x.is) ∙ sym x.whole)
            r.whole.reads;
      }

  -- a sound table and scratch for any record are not refused
  pub not_refused : (role : Role) (len : ℕ) (e : TableFault) → SoundTable role T → scratch_needs ≤ len → Refused role T (lowered list top) len e → ⊥
  not_refused role len e s h (inl f) = error_apart e tt ((one_check T).only role (Err e) (Ok tt) f s)
  not_refused role len e s h (inr f) =
      let n = x.count_is in
      let m = x.is.number in
      let l = f.1.0 in
      omega arith

  -- a refusal would count as a no, and there is none
  pub fits_checked : (len : ℕ) (said : Result Bool TableFault) (r : Result (Unit {0}) Fault) → SoundTable Form T → scratch_needs ≤ len
      → FitsAnswer kinds T (shown list top) (lowered list top) len said
      → Checked (unless (IsTrue (result_unwrap_or said false)) (fault NoFit 0)) r → Checked (unless (Read kinds T bytes) (fault NoFit 0)) r
  fits_checked len (Ok true) (Ok u) s h f e = read_of (f.1.0 refl)
  fits_checked len (Ok true) (Err g) s h f e = absurd (e.0 refl)
  fits_checked len (Ok false) (Ok u) s h f e = absurd (true≢false (sym e))
  fits_checked len (Ok false) (Err g) s h f e = ((λ r. true≢false (sym (f.1.1 (whole_of r)))), e.1)
  fits_checked len (Err d) r s h f e = absurd (not_refused Form len d s h f)

-- the checks of filing after that of the lengths
module _ {C : Type 0} (kinds : C → ℕ → Bool) (bytes : List ℕ) (index scratch : ℕ) (w : World C) (F : Tab C) where
  abbrev pub before_fit : List Check
  before_fit = table_check Form F ∷ each (buffers_checks Form index scratch) ∷ record_check bytes ∷ each (file_room_checks w.box w.shelf (length bytes)) ∷ []

  abbrev pub after_lengths : List Check
  after_lengths = before_fit ++ unless (Read kinds F bytes) (fault NoFit 0) ∷ []
