-- 12 exactly if there is a double.
use Rattle.std.proofs.Common.{ℕ, Bool, Ok, Err, sym, refl, ap, ◌∙◌, subst}
use Rattle.boxes.specs.Fault.{place}
use Rattle.boxes.specs.Calls.{double_check, checks_before_12}
use Rattle.boxes.specs.Shelf.{form_of}
use Rattle.examine.specs.Examine.{Shown}
use Rattle.boxes.specs.Promise.{Exact12}
use Rattle.boxes.proofs.Lawful.{same_error, answers_apart, last_fails, last_passes}
use Rattle.boxes.proofs.Settled.{before_12_lawful}

pub exact_holds : {C : Type 0} (kinds : C → ℕ → Bool) → Exact12 kinds
exact_holds {C} kinds w P sheet helper lines (Err f) after x before =
    let h = last_fails (λ g. g) (checks_before_12 w P sheet helper) (double_check kinds (form_of w.box w.shelf) P lines) (before_12_lawful (λ g. g) w P sheet helper) f before x.0 in (
      ((λ _. h.1.0), (λ _. (h.0, ap Err h.2))),
      λ top e. subst (λ (t : ℕ). Shown kinds (form_of w.box w.shelf) P lines t) (ap place (sym h.2 ∙ same_error f _ e)) h.1.1,
    )
exact_holds {C} kinds w P sheet helper lines (Ok u) after x before =
    let n = last_passes (λ g. g) (checks_before_12 w P sheet helper) (double_check kinds (form_of w.box w.shelf) P lines) x.0 in
    (((λ t. absurd (answers_apart (Ok u) _ u t.1 refl)), (λ t. absurd (n t))), λ top e. absurd (answers_apart (Ok u) _ u e refl))
