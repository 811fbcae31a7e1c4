-- What is checked of a box on its shelf is checked of box and shelf.
use Rattle.std.proofs.Common.{◌≡◌, List, [], ◌∷◌, ◌++◌, Ok, Err, Result, sym, ap, ◌∙◌, subst, subst₂, inl, inr}
use Rattle.std.specs.Result.{IsErrAnd}
use Rattle.table.specs.Table.{Tab}
use Rattle.boxes.specs.declared.fault.Fault.{Fault}
use Rattle.boxes.specs.Check.{Check, Fails, Passes, each}
use Rattle.boxes.specs.Shelf.{World, form_of}
use Rattle.boxes.specs.Calls.{lengths_check}
use Rattle.boxes.specs.Stage.{Checked}

-- the checks after that of the lengths, made of the same box, shelf and form under other names
pub checked_there : {C : Type 0} (rest : World C → Tab C → List Check) {v w : World C} {F : Tab C}
    → ((lengths_check w.box w.shelf).passes) × (v ≡ w) → F ≡ form_of v.box v.shelf
    → (r : Result (Unit {0}) Fault) → Checked (each (rest v F)) r → Checked (each (lengths_check w.box w.shelf ∷ rest w (form_of w.box w.shelf))) r
checked_there rest s e (Ok u) h = (s.0, subst₂ (λ v F. Passes (rest v F)) s.1 (e ∙ ap (λ w. form_of w.box w.shelf) s.1) h)
checked_there rest s e (Err f) h = inr (s.0, subst₂ (λ v F. Fails (rest v F) f) s.1 (e ∙ ap (λ w. form_of w.box w.shelf) s.1) h)

-- a check fails that `?` hands on
pub refused_there : {C : Type 0} (rest : World C → Tab C → List Check) {v w : World C} {F : Tab C}
    → ((lengths_check w.box w.shelf).passes) × (v ≡ w) → F ≡ form_of v.box v.shelf
    → (r : Result (Unit {0}) Fault) (f : Fault) → IsErrAnd r (λ g. g ≡ f) → Fails (rest v F) f
    → Checked (each (lengths_check w.box w.shelf ∷ rest w (form_of w.box w.shelf))) r
refused_there rest {v = v} {F = F} s e (Ok u) f i h = absurd i
refused_there rest {v = v} {F = F} s e (Err g) f i h = checked_there rest s e (Err g) (subst (Fails (rest v F)) (sym i) h)

-- the last check, after others that pass
pub checked_last : (cs : List Check) (c : Check) (r : Result (Unit {0}) Fault) → Passes cs → Checked c r → Checked (each (cs ++ c ∷ [])) r
checked_last [] c (Ok u) p h = (h, tt)
checked_last [] c (Err f) p h = inl h
checked_last (d ∷ cs) c (Ok u) p h = (p.0, checked_last cs c (Ok u) p.1 h)
checked_last (d ∷ cs) c (Err f) p h = inr (p.0, checked_last cs c (Err f) p.1 h)
