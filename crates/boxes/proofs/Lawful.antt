-- No check both fails and passes, and none gives two faults.
use Rattle.std.proofs.Common.{◌≡◌, ℕ, ◌+◌, ◌*◌, ◌≤◌, List, [], ◌∷◌, ◌++◌, Ok, Err, Result, sym, refl, ap, ◌∙◌, subst, inl, inr, le_antisymm, arith}
use Rattle.record.specs.Fault.{Fault as RecordFault}
use Rattle.record.proofs.Verdict.{one_verdict}
use Rattle.table.specs.declared.fault.Fault.{Fault as TableFault}
use Rattle.table.specs.Sets.{Extent}
use Rattle.table.proofs.Outcomes.{one_check}
use Rattle.boxes.specs.Check.{Check, when, unless, lifted, Fails, Passes, each, Answers}
use Rattle.table.specs.declared.fault.Role.TheVariants.{Pattern}
use Rattle.table.specs.declared.fault.Role.{Role}
use Rattle.table.specs.declared.fault.Cause.TheVariants.{ShortBuffer}
use Rattle.table.specs.Fault.{refusal}
use Rattle.boxes.specs.declared.fault.Fault.{Fault}
use Rattle.boxes.specs.declared.fault.Fault.TheVariants.{Table, Record}
use Rattle.boxes.specs.Calls.{sheet_checks, known_checks, lengths_checks, lengths_check, table_check, record_check, buffer_check}
use Rattle.table.specs.Table.{Tab}
use Rattle.boxes.specs.Shelf.{Shelf, Box}
use Rattle.examine.specs.Examine.{Needs}
use Rattle.boxes.specs.Promise.{Fixes}
use Rattle.record.specs.Record.{IsRecord, Refused}
use Rattle.table.specs.Check.{SoundTable, FaultyTable, Named}

module _ {R E : Type 0} where
  abbrev tells : Result R E → Type 0
  tells (Err f) = Unit {0}
  tells (Ok r) = ⊥

  pub answers_apart : (a : Result R E) (f : E) (r : R) → a ≡ Err f → a ≡ Ok r → ⊥
  answers_apart a f r x y = subst tells (sym x ∙ y) tt

  pub same_error : (f g : E) → ◌≡◌ {A = Result R E} (Err f) (Err g) → f ≡ g
  same_error f g e = cc

  pub error_apart : (f : E) (r : R) → ◌≡◌ {A = Result R E} (Err f) (Ok r) → ⊥
  error_apart f r e = answers_apart (Err f) f r refl e

-- the highest number of a set, and so the length needed, is one
extent_one : (Q : ℕ → Type 0) (m n : ℕ) → Extent Q m → Extent Q n → m ≡ n
extent_one Q m n x y = le_antisymm (up m n x y) (up n m y x)
  where
    up : (a b : ℕ) → Extent Q a → Extent Q b → a ≤ b
    up a b u v = elim u.tight [ inl e ↦ omega arith | inr t ↦ let l = v.below t.0 t.2 in let e = t.1 in omega arith ]

pub needs_one : {C : Type 0} (F P : Tab C) (m n : ℕ) → Needs F P m → Needs F P n → m ≡ n
needs_one F P m n x y =
    let s = extent_one (Named F) x.forms y.forms x.forms_are y.forms_are in
    let q = extent_one (Named P) x.states y.states x.states_are y.states_are in
    x.is ∙ ((λ i. 3 * s i * q i * q i + 1) ∙ sym y.is)

module _ {V : Type 0} (view : Fault → V) where
  pub record Lawful (c : Check) : Type 0 where
    pub one : (f g : Fault) → c.fails f → c.fails g → view f ≡ view g
    pub apart : (f : Fault) → c.fails f → c.passes → ⊥

  -- a law may lean on the checks before
  abbrev pub AllLawful : List Check → Type 0
  AllLawful [] = Unit {0}
  AllLawful (c ∷ cs) = (Lawful c) × (c.passes → AllLawful cs)

  pub lawful_when : (A : Type 0) (f : Fault) → Lawful (when A f)
  lawful_when A f = record { one = λ g h x y. ap view (x.1 ∙ sym y.1); apart = λ g x n. n x.0 }

  pub lawful_unless : (A : Type 0) (f : Fault) → Lawful (unless A f)
  lawful_unless A f = record { one = λ g h x y. ap view (x.1 ∙ sym y.1); apart = λ g x a. x.0 a }

  each_one : (cs : List Check) → AllLawful cs → (f g : Fault) → Fails cs f → Fails cs g → view f ≡ view g
  each_one [] l f g x y = absurd x
  each_one (c ∷ cs) l f g (inl x) (inl y) = l.0.one f g x y
  each_one (c ∷ cs) l f g (inl x) (inr y) = absurd (l.0.apart f x y.0)
  each_one (c ∷ cs) l f g (inr x) (inl y) = absurd (l.0.apart g y x.0)
  each_one (c ∷ cs) l f g (inr x) (inr y) = each_one cs (l.1 x.0) f g x.1 y.1

  each_apart : (cs : List Check) → AllLawful cs → (f : Fault) → Fails cs f → Passes cs → ⊥
  each_apart [] l f x y = x
  each_apart (c ∷ cs) l f (inl x) y = l.0.apart f x y.0
  each_apart (c ∷ cs) l f (inr x) y = each_apart cs (l.1 y.0) f x.1 y.1

  pub lawful_each : (cs : List Check) → AllLawful cs → Lawful (each cs)
  lawful_each cs l = record { one = each_one cs l; apart = each_apart cs l }

  pub lawful_lifted : {E : Type 0} (up : E → Fault) (refused : E → Type 0) (passes : Type 0)
      → ((d e : E) → refused d → refused e → view (up d) ≡ view (up e)) → ((e : E) → refused e → passes → ⊥) → Lawful (lifted up refused passes)
  lawful_lifted up refused passes one apart =
      record {
        one = λ f g x y. ap view x.2 ∙ (one x.0 y.0 x.1 y.1 ∙ sym (ap view y.2));
        apart = λ f x p. apart x.0 x.1 p;
      }

  pub table_lawful : {C : Type 0} (role : Role) (T : Tab C) → Lawful (table_check role T)
  table_lawful role T =
      lawful_lifted Table (FaultyTable role T) (SoundTable role T)
      (λ d e x y. ap (λ (z : TableFault). view (Table z)) (same_error d e ((one_check T).only role (Err d) (Err e) x y)))
      (λ e x p. error_apart e tt ((one_check T).only role (Err e) (Ok tt) x p))

  pub record_lawful : (bytes : List ℕ) → Lawful (record_check bytes)
  record_lawful bytes =
      lawful_lifted Record (Refused bytes) (IsRecord bytes)
      (λ d e x y. ap (λ (z : RecordFault). view (Record z)) (one_verdict.one_refusal bytes d e x y))
      (λ e x p. one_verdict.not_both bytes e p x)

  buffer_lawful : {C : Type 0} (F P : Tab C) (room : ℕ) → Lawful (buffer_check F P room)
  buffer_lawful F P room =
      lawful_lifted (λ n. Table (refusal Pattern ShortBuffer n)) _ _
      (λ m n x y. ap (λ (z : ℕ). view (Table (refusal Pattern ShortBuffer z))) (needs_one F P m n x.0 y.0))
      (λ m x p. let e = needs_one F P m p.0 x.0 p.1 in let l = x.1 in let g = p.2 in omega arith)

  pub lengths_lawful : {C : Type 0} (box : Box) (shelf : Shelf C) → Lawful (lengths_check box shelf)
  lengths_lawful box shelf = lawful_each (lengths_checks box shelf) (lawful_when _ _, λ _. (lawful_when _ _, λ _. (lawful_when _ _, λ _. (lawful_when _ _, λ _. tt))))

  pub pair_lawful : (A B : Type 0) (f g : Fault) → Lawful (each (when A f ∷ when B g ∷ []))
  pair_lawful A B f g = lawful_each (when A f ∷ when B g ∷ []) (lawful_when A f, λ _. (lawful_when B g, λ _. tt))

  pub known_lawful : (patterns records p r m : ℕ) → Lawful (each (known_checks patterns records p r m))
  known_lawful patterns records p r m = lawful_each (known_checks patterns records p r m) (lawful_when _ _, λ _. (lawful_when _ _, λ _. (lawful_when _ _, λ _. tt)))

  pub sheet_lawful : {C : Type 0} (F P : Tab C) (sheet helper : ℕ) → Lawful (each (sheet_checks F P sheet helper))
  sheet_lawful F P sheet helper = lawful_each (sheet_checks F P sheet helper) (buffer_lawful F P sheet, λ _. (buffer_lawful F P helper, λ _. tt))

  -- a call with lawful checks, whose doing is fixed, is fixed
  pub answers_fixed : {S R : Type 0} (cs : List Check) (before : S) (so : R → S → Type 0) → AllLawful cs
      → (Passes cs → (r r' : R) (s s' : S) → so r s → so r' s' → (r ≡ r') × (s ≡ s'))
      → Fixes view (Answers cs before so)
  answers_fixed cs before so l does (Err f) (Err g) s s' x y = (each_one cs l f g x.0 y.0, x.1 ∙ sym y.1)
  answers_fixed cs before so l does (Err f) (Ok r) s s' x y = absurd (each_apart cs l f x.0 y.0)
  answers_fixed cs before so l does (Ok r) (Err g) s s' x y = absurd (each_apart cs l g y.0 x.0)
  answers_fixed cs before so l does (Ok r) (Ok r') s s' x y = does x.0 r r' s s' x.1 y.1

  -- the last check after others that pass
  pub last_fails : (cs : List Check) (c : Check) → AllLawful cs → (f : Fault) → Passes cs → Fails (cs ++ c ∷ []) f → c.fails f
  last_fails [] c l f p (inl x) = x
  last_fails [] c l f p (inr x) = absurd x.1
  last_fails (d ∷ cs) c l f p (inl x) = absurd (l.0.apart f x p.0)
  last_fails (d ∷ cs) c l f p (inr x) = last_fails cs c (l.1 p.0) f p.1 x.1

  pub last_passes : (cs : List Check) (c : Check) → Passes (cs ++ c ∷ []) → c.passes
  last_passes [] c p = p.0
  last_passes (d ∷ cs) c p = last_passes cs c p.1
