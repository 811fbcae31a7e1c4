-- The relations of the calls leave nothing open.
use Rattle.std.proofs.Common.{◌≡◌, ℕ, Bool, List, ◌++◌, length, drop, sym, refl, ap, ◌∙◌, arith}
use Rattle.boxes.specs.Fault.{fault}
use Rattle.table.specs.declared.fault.Role.TheVariants.{Form, Pattern}
use Rattle.table.specs.declared.fault.Cause.TheVariants.{Double}
use Rattle.table.specs.Fault.{refusal}
use Rattle.boxes.specs.declared.fault.Fault.{Fault}
use Rattle.boxes.specs.declared.fault.Fault.TheVariants.{Table}
use Rattle.boxes.specs.declared.fault.Cause.TheVariants.{ShortList}
use Rattle.boxes.specs.declared.shelf.Spot.{Spot}
use Rattle.boxes.specs.Record.{Read, Twice, spots}
use Rattle.boxes.specs.Calls.{double_check, lay_checks, checks_before_12, admit_checks, file_checks, Listed, list_check, find_checks}
use Rattle.table.specs.Table.{Tab}
use Rattle.table.specs.Reading.{Twofold}
use Rattle.boxes.specs.Shelf.{World}
use Rattle.examine.specs.declared.line.Line.{Line}
use Rattle.boxes.specs.Promise.{but_top, Fixed}
use Rattle.boxes.proofs.Single.{alike, same_spots}
use Rattle.boxes.proofs.Lawful.{Lawful, AllLawful, lawful_when, lawful_unless, lawful_lifted, table_lawful, record_lawful, sheet_lawful, lengths_lawful, pair_lawful, known_lawful, answers_fixed}

pub before_12_lawful : {V : Type 0} (view : Fault → V) {C : Type 0} (w : World C) (P : Tab C) (sheet helper : ℕ) → AllLawful view (checks_before_12 w P sheet helper)
before_12_lawful view w P sheet helper =
    (lengths_lawful view w.box w.shelf, λ _. (table_lawful view Form _, λ _. (table_lawful view Pattern P, λ _. (sheet_lawful view _ P sheet helper, λ _. (pair_lawful view _ _ _ _, λ _. tt)))))

module _ {C : Type 0} (kinds : C → ℕ → Bool) where
  double_lawful : (F P : Tab C) (lines : List Line) → Lawful but_top (double_check kinds F P lines)
  double_lawful F P lines =
      lawful_lifted but_top (λ top. Table (refusal Pattern Double top)) _ (Twofold kinds F P → ⊥) (λ t u x y. refl) (λ t x n. n x.0)

  admit_lawful : (w : World C) (P : Tab C) (sheet helper : ℕ) (lines : List Line) → AllLawful but_top (admit_checks w P sheet helper kinds lines)
  admit_lawful w P sheet helper lines =
      let view : Fault → Fault = but_top in (
        lengths_lawful view w.box w.shelf,
        λ _. (
          table_lawful view Form _,
          λ _. (
            table_lawful view Pattern P,
            λ _. (
              sheet_lawful view _ P sheet helper,
              λ _. (
                pair_lawful view _ _ _ _,
                λ _.
                    (double_lawful _ P lines, λ _. tt),
              ),
            ),
          ),
        ),
      )

  file_lawful : (w : World C) (bytes : List ℕ) (index scratch : ℕ) → AllLawful (λ f. f) (file_checks kinds w bytes index scratch)
  file_lawful w bytes index scratch =
      let view : Fault → Fault = λ f. f in (
        lengths_lawful view w.box w.shelf,
        λ _. (
          table_lawful view Form _,
          λ _. (
            pair_lawful view _ _ _ _,
            λ _. (
              record_lawful view bytes,
              λ _.
                  (pair_lawful view _ _ _ _, λ _. (lawful_unless view _ _, λ _. tt)),
            ),
          ),
        ),
      )

  module _ (P : Tab C) (bytes : List ℕ) (m : ℕ) (out : List Spot) (n : Twice kinds P bytes → ⊥) where
    one_list : (x y : Read kinds P bytes) → spots m x ≡ spots m y
    one_list x y = same_spots kinds P bytes m x y (alike kinds P bytes x y (λ d. n (x, y, d)))

    list_lawful : Lawful (λ f. f) (list_check kinds P bytes m out)
    list_lawful =
        lawful_lifted (λ f. f) (λ k. fault ShortList k) _ _
        (λ j k x y. ap (fault ShortList) (x.1 ∙ (ap length (one_list x.0 y.0) ∙ sym y.1)))
        (λ k x h. let l = h x.0 in let e = x.1 in let g = x.2 in omega arith)

    listed_one : (c d : ℕ) (s t : List Spot) → Listed kinds P bytes m out c s → Listed kinds P bytes m out d t → (c ≡ d) × (s ≡ t)
    listed_one c d s t x y =
        let e = one_list x.reading y.reading in
        let k : c ≡ d = x.count ∙ (ap length e ∙ sym y.count) in
        (k, x.list ∙ ((λ i. e i ++ drop (k i) out) ∙ sym y.list))

  find_lawful : (w : World C) (p r m index scratch : ℕ) (out : List Spot) → AllLawful (λ f. f) (find_checks kinds w p r m index scratch out)
  find_lawful w p r m index scratch out =
      let view : Fault → Fault = λ f. f in (
        lengths_lawful view w.box w.shelf,
        λ _. (
          known_lawful view _ _ p r m,
          λ _. (
            pair_lawful view _ _ _ _,
            λ _. (
              pair_lawful view _ _ _ _,
              λ _. (
                record_lawful view _,
                λ _. (
                  table_lawful view Pattern _,
                  λ _.
                      (lawful_unless view _ _, λ _. (lawful_when view _ _, λ n. (list_lawful _ _ m out n, λ _. tt))),
                ),
              ),
            ),
          ),
        ),
      )

  pub fixed_holds : Fixed kinds
  fixed_holds =
      record {
        lay = λ F shelf. answers_fixed (λ f. f) (lay_checks F shelf) shelf _ (table_lawful (λ f. f) Form F, λ _. (lawful_when (λ f. f) _ _, λ _. tt))
            (λ _ r r' s s' x y. (x.0 ∙ sym y.0, x.1 ∙ sym y.1));
        admit = λ w P sheet helper lines. answers_fixed but_top (admit_checks w P sheet helper kinds lines) w _ (admit_lawful w P sheet helper lines) (λ _ r r' s s' x y. (refl, x ∙ sym y));
        file = λ w bytes index scratch. answers_fixed (λ f. f) (file_checks kinds w bytes index scratch) w _ (file_lawful w bytes index scratch) (λ _ r r' s s' x y. (refl, x ∙ sym y));
        find = λ w p r m index scratch out. answers_fixed (λ f. f) (find_checks kinds w p r m index scratch out) out _ (find_lawful w p r m index scratch out)
            (λ c k l s t x y. listed_one _ _ m out c.1.1.1.1.1.1.1.0 k l s t x y);
      }
