-- What one more step gains of sets that are sound is so.
use Rattle.std.proofs.Common.{◌≡◌, ℕ, Bool, true, sym, refl, ap, ◌∙◌, inl, inr}
use Rattle.record.specs.Run.{Run, nil, node}
use Rattle.table.specs.Table.{Tab}
use Rattle.table.specs.Reading.{Reading, stop, skip, take, Skips, Reads}
use Rattle.table.specs.Counting.{Sets, First, ends, slips, enters, kind_of, Twice, Once, Opens, Forks, Below}
use Rattle.table.proofs.Apart.{first, skip_rest, take_inside, take_after}

-- what the sets say is so
pub record Sound {C : Type 0} (kinds : C → ℕ → Bool) (T : Tab C) (w : Run) (S : Sets) : Type 0 where
  pub some_means : (q : ℕ) → S.some q ≡ true → Once kinds T q w
  pub many_means : (q : ℕ) → S.many q ≡ true → Twice kinds T q w

module _ {C : Type 0} (kinds : C → ℕ → Bool) (T : Tab C) where
  -- a reading from q with this first step
  abbrev pub Begun : ℕ → Run → First → Type 0
  Begun q w x = (ρ : Reading) × (Reads kinds T q w ρ) × (first ρ ≡ x)

  slipped : (w : Run) (q r t : ℕ) → Skips T r q t → Twice kinds T t w → Twice kinds T q w
  slipped w q r t k x =
      record {
        one = skip r x.one;
        other = skip r x.other;
        one_reads = (t, k, x.one_reads);
        other_reads = (t, k, x.other_reads);
        differ = λ e. x.differ (skip_rest e);
      }

  module _ (h i a : Sets) where
    pub begun : (w : Run) → Below kinds T w i a → Sound kinds T w h → (q : ℕ) (x : First) → Opens kinds T (kind_of w) h i a q x → Begun q w x
    begun nil b s q ends o = (stop, o, refl)
    begun (node k v w) b s q ends o = absurd o
    begun nil b s q (slips r) o = let p = s.some_means o.0 o.2 in (skip r p.0, (o.0, o.1, p.1), refl)
    begun (node k v w) b s q (slips r) o = let p = s.some_means o.0 o.2 in (skip r p.0, (o.0, o.1, p.1), refl)
    begun nil b s q (enters r) o = absurd o
    begun (node k v w) b s q (enters r) o =
        let x = (b.0.somes o.0).0 o.3 in
        let y = (b.1.somes o.1).0 o.4 in
        (take r x.0 y.0, (o.0, o.1, o.2, x.1, y.1), refl)

    pub forked : (w : Run) → Below kinds T w i a → Sound kinds T w h → (q : ℕ) (x : First) → Forks kinds T (kind_of w) h i a q x → Twice kinds T q w
    forked nil b s q ends o = absurd o
    forked (node k v w) b s q ends o = absurd o
    forked nil b s q (slips r) o = slipped nil q r o.0 o.1 (s.many_means o.0 o.3)
    forked (node k v w) b s q (slips r) o = slipped (node k v w) q r o.0 o.1 (s.many_means o.0 o.3)
    forked nil b s q (enters r) o = absurd o
    forked (node k v w) b s q (enters r) o =
        elim o.5 [
          | inl m ↦
              let x = (b.0.manys o.0).0 m in
              let y = (b.1.somes o.1).0 o.4 in
              record {
                one = take r x.one y.0;
                other = take r x.other y.0;
                one_reads = (o.0, o.1, o.2, x.one_reads, y.1);
                other_reads = (o.0, o.1, o.2, x.other_reads, y.1);
                differ = λ e. x.differ (take_inside e);
              }
          | inr m ↦
              let x = (b.0.somes o.0).0 o.3 in
              let y = (b.1.manys o.1).0 m in
              record {
                one = take r x.0 y.one;
                other = take r x.0 y.other;
                one_reads = (o.0, o.1, o.2, x.1, y.one_reads);
                other_reads = (o.0, o.1, o.2, x.1, y.other_reads);
                differ = λ e. y.differ (take_after e);
              }
        ]

    pub parted : (w : Run) → Below kinds T w i a → Sound kinds T w h → (q : ℕ) (x y : First) → (x ≡ y → ⊥)
        → Opens kinds T (kind_of w) h i a q x → Opens kinds T (kind_of w) h i a q y → Twice kinds T q w
    parted w b s q x y n o p =
        let l = begun w b s q x o in
        let m = begun w b s q y p in
        record { one = l.0; other = m.0; one_reads = l.1; other_reads = m.1; differ = λ e. n (sym l.2 ∙ (ap first e ∙ m.2)) }
