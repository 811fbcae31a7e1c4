-- What index and text promise leaves one answer.
use Rattle.std.proofs.Common.{◌≡◌, ℕ, ◌+◌, List, length, take, Ok, Err, Result, sym, ap, ◌∙◌, subst, inl, inr, arith}
use Rattle.record.specs.declared.index.Entry.{Entry}
use Rattle.record.specs.Fault.{Fault}
use Rattle.record.specs.Nodes.{Nodes, nil, node, count}
use Rattle.record.specs.Record.{IsRecord}
use Rattle.record.specs.Index.{span, entries, IndexedAs, Unindexed, Indexes}
use Rattle.record.specs.Text.{Starts, Untexted}
use Rattle.record.specs.Laws.{OneOutcome}
use Rattle.record.proofs.Finds.{starts_in}
use Rattle.record.proofs.Verdict.{one_verdict}

module _ (bytes : List ℕ) where
  same_nodes : (r s : IsRecord bytes) → r.nodes ≡ s.nodes
  same_nodes = one_verdict.one_value bytes

  filled_one : (new new' : List Entry) (n : ℕ) → IndexedAs bytes new n → IndexedAs bytes new' n → take n new ≡ take n new'
  filled_one new new' n x y = x.filled ∙ (ap (entries 0 0) (same_nodes x.is y.is) ∙ sym y.filled)

  never : {X : Type 0} (old new : List Entry) (n : ℕ) (e : Fault) → length old ≡ length new → IndexedAs bytes new n → Unindexed bytes old e → X
  never old new n e k x (inl u) = let l = x.room in absurd (omega arith)
  never old new n e k x (inr u) = absurd (one_verdict.not_both bytes e x.is u.1)

  unindexed_one : (old : List Entry) (d e : Fault) → Unindexed bytes old d → Unindexed bytes old e → d ≡ e
  unindexed_one old d e (inl x) (inl y) = x.1 ∙ sym y.1
  unindexed_one old d e (inl x) (inr y) = absurd (omega arith)
  unindexed_one old d e (inr x) (inl y) = absurd (omega arith)
  unindexed_one old d e (inr x) (inr y) = one_verdict.one_refusal bytes d e x.1 y.1

  untexted_one : (o : ℕ) (d e : Fault) → Untexted bytes o d → Untexted bytes o e → d ≡ e
  untexted_one o d e (inl x) (inl y) = one_verdict.one_refusal bytes d e x y
  untexted_one o d e (inl x) (inr y) = absurd (one_verdict.not_both bytes d y.0.is x)
  untexted_one o d e (inr x) (inl y) = absurd (one_verdict.not_both bytes e x.0.is y)
  untexted_one o d e (inr x) (inr y) = x.1 ∙ sym y.1

-- one node starts at an offset
starts_one : (n : Nodes) (base o : ℕ) (s t : List ℕ) → Starts base n o s → Starts base n o t → s ≡ t
starts_one nil base o s t x y = absurd x
starts_one (node k u i a) base o s t (inl x) (inl y) = x.1 ∙ sym y.1
starts_one (node k u i a) base o s t (inl x) (inr (inl y)) = let g = starts_in i (base + 8 + length u) o t y in absurd (omega arith)
starts_one (node k u i a) base o s t (inl x) (inr (inr y)) = let g = starts_in a (base + span u i) o t y in absurd (omega arith)
starts_one (node k u i a) base o s t (inr (inl x)) (inl y) = let g = starts_in i (base + 8 + length u) o s x in absurd (omega arith)
starts_one (node k u i a) base o s t (inr (inr x)) (inl y) = let g = starts_in a (base + span u i) o s x in absurd (omega arith)
starts_one (node k u i a) base o s t (inr (inl x)) (inr (inl y)) = starts_one i (base + 8 + length u) o s t x y
starts_one (node k u i a) base o s t (inr (inr x)) (inr (inr y)) = starts_one a (base + span u i) o s t x y
starts_one (node k u i a) base o s t (inr (inl x)) (inr (inr y)) =
    let g = starts_in i (base + 8 + length u) o s x in
    let h = starts_in a (base + span u i) o t y in
    absurd (omega arith)
starts_one (node k u i a) base o s t (inr (inr x)) (inr (inl y)) =
    let g = starts_in a (base + span u i) o s x in
    let h = starts_in i (base + 8 + length u) o t y in
    absurd (omega arith)

module _ (bytes : List ℕ) (old new new' : List Entry) (same : length old ≡ length new) (same' : length old ≡ length new') where
  index_one : (r s : Result ℕ Fault) → Indexes bytes old new r → Indexes bytes old new' s → r ≡ s
  index_one (Ok m) (Ok n) x y = ap Ok (x.count_is ∙ (ap count (same_nodes bytes x.is y.is) ∙ sym y.count_is))
  index_one (Ok m) (Err e) x y = never bytes old new m e same x y
  index_one (Err d) (Ok n) x y = never bytes old new' n d same' y x
  index_one (Err d) (Err e) x y = ap Err (unindexed_one bytes old d e x y)

pub one_outcome : OneOutcome
one_outcome =
    record {
      index = index_one;
      filled = filled_one;
      text = λ bytes o s t x y. starts_one x.is.nodes 0 o s t x.starts (subst (λ n. Starts 0 n o t) (sym (same_nodes bytes x.is y.is)) y.starts);
      no_text = untexted_one;
      text_or_not = λ bytes o s e x y. elim y [
        | inl z ↦ one_verdict.not_both bytes e x.is z
        | inr z ↦ z.0.none s (subst (λ n. Starts 0 n o s) (same_nodes bytes x.is z.0.is) x.starts)
      ];
    }
