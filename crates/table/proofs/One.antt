-- A run has one count, and each call has one answer.
use Rattle.std.proofs.Common.{◌≡◌, ℕ, zero, suc, ◌≤◌, Bool, true, ◌↔◌, List, Ok, Err, Option, Result, sym, refl, ap, ◌∙◌, inl, inr, arith, MatchResult}
use Rattle.record.specs.declared.run.Node.{Node}
use Rattle.record.specs.Run.{Run, run_at}
use Rattle.table.specs.declared.fault.Role.{Role}
use Rattle.table.specs.declared.fault.Role.TheVariants.{Form, Pattern}
use Rattle.table.specs.declared.fault.Fault.{Fault}
use Rattle.table.specs.Table.{Tab}
use Rattle.table.specs.Reading.{Fits, Single, Two, Counts, Twofold}
use Rattle.table.specs.Marks.{MarksAnswer}
use Rattle.table.specs.Laws.{OneOutcome}
use Rattle.table.specs.Calls.{Admitted, Refused, FitsAnswer, ReadingsAnswer}
use Rattle.table.proofs.Bits.{same_truth}
use Rattle.table.proofs.Outcomes.{never_both, one_fault}

module _ {C : Type 0} (kinds : C → ℕ → Bool) (T : Tab C) (w : Run) where
  pub not_both : Single kinds T w → Two kinds T w → ⊥
  not_both s d =
      let x = s.alone d.one in
      let y = s.alone d.other in
      d.differ (sym x.0 ∙ y.0, sym x.1 ∙ y.1)

  pub one_count : (m n : ℕ) → Counts kinds T w m → Counts kinds T w n → m ≡ n
  one_count zero zero a b = refl
  one_count zero (suc zero) a b = absurd (a b.whole)
  one_count zero (suc (suc zero)) a b = absurd (a b.one)
  one_count zero (suc (suc (suc n))) a b = absurd b
  one_count (suc zero) zero a b = absurd (b a.whole)
  one_count (suc zero) (suc zero) a b = refl
  one_count (suc zero) (suc (suc zero)) a b = absurd (not_both a b)
  one_count (suc zero) (suc (suc (suc n))) a b = absurd b
  one_count (suc (suc zero)) zero a b = absurd (b a.one)
  one_count (suc (suc zero)) (suc zero) a b = absurd (not_both b a)
  one_count (suc (suc zero)) (suc (suc zero)) a b = refl
  one_count (suc (suc zero)) (suc (suc (suc n))) a b = absurd b
  one_count (suc (suc (suc m))) n a b = absurd a

-- where no run that fits the form has two readings, one that fits has at most one
pub at_most_one : {C : Type 0} (kinds : C → ℕ → Bool) (F P : Tab C) → (Twofold kinds F P → ⊥) → (w : Run) → Fits kinds F w → (n : ℕ) → Counts kinds P w n → n ≤ 1
at_most_one kinds F P single w f zero c = omega arith
at_most_one kinds F P single w f (suc zero) c = omega arith
at_most_one kinds F P single w f (suc (suc zero)) c = absurd (single (w, f, c))
at_most_one kinds F P single w f (suc (suc (suc n))) c = absurd c

-- a call that is refused, or answers what P says
abbrev Answered : {C A : Type 0} → Role → Tab C → ℕ → ℕ → (A → Type 0) → Result A Fault → Type 0
Answered role T top len P r = MatchResult r (λ a. (Admitted role T top len) × (P a)) (λ e. Refused role T top len e)

module _ {C : Type 0} (role : Role) (T : Tab C) (top len : ℕ) where
  never_refused : (e : Fault) → Admitted role T top len → Refused role T top len e → ⊥
  never_refused e a (inl f) = never_both role T e a.table f
  never_refused e a (inr s) = let l = a.room in omega (arith, s.1.0)

  one_refusal : (e d : Fault) → Refused role T top len e → Refused role T top len d → e ≡ d
  one_refusal e d (inl f) (inl g) = one_fault role T e d f g
  one_refusal e d (inl f) (inr s) = absurd (never_both role T e s.0 f)
  one_refusal e d (inr s) (inl f) = absurd (never_both role T d s.0 f)
  one_refusal e d (inr s) (inr t) = s.1.1 ∙ sym t.1.1

  one_answer : {A : Type 0} (P : A → Type 0) → ((a b : A) → P a → P b → a ≡ b) → (r s : Result A Fault)
      → Answered role T top len P r → Answered role T top len P s → r ≡ s
  one_answer P agree (Ok a) (Ok b) x y = ap Ok (agree a b x.1 y.1)
  one_answer P agree (Ok a) (Err e) x y = absurd (never_refused e x.0 y)
  one_answer P agree (Err e) (Ok b) x y = absurd (never_refused e y.0 x)
  one_answer P agree (Err e) (Err d) x y = ap Err (one_refusal e d x y)

module _ {C : Type 0} (kinds : C → ℕ → Bool) (T : Tab C) (seen : ℕ → Option Node) (top len : ℕ) where
  one_fits : (r s : Result Bool Fault) → FitsAnswer kinds T seen top len r → FitsAnswer kinds T seen top len s → r ≡ s
  one_fits = one_answer Form T top len (λ b. (b ≡ true) ↔ Fits kinds T (run_at seen top)) (λ a b x y. same_truth a b (λ e. y.1 (x.0 e)) (λ e. x.1 (y.0 e)))

  one_readings : (r s : Result ℕ Fault) → ReadingsAnswer kinds T seen top len r → ReadingsAnswer kinds T seen top len s → r ≡ s
  one_readings = one_answer Pattern T top len (Counts kinds T (run_at seen top)) (one_count kinds T (run_at seen top))

  marks_count : (xs : List ℕ) (r : Result ℕ Fault) → MarksAnswer kinds T seen top len xs r → ReadingsAnswer kinds T seen top len r
  marks_count xs (Ok n) x = (x.0, x.1)
  marks_count xs (Err e) x = x

pub one_outcome : {C : Type 0} (kinds : C → ℕ → Bool) → OneOutcome kinds
one_outcome kinds =
    record {
      fits = λ T seen top len. one_fits kinds T seen top len;
      readings = λ T seen top len. one_readings kinds T seen top len;
      marks = λ T seen top len xs. marks_count kinds T seen top len xs;
    }
