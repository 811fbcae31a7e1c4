-- What a place of a list of entries shows.
use Rattle.std.proofs.Common.{◌≡◌, ℕ, zero, suc, ◌<◌, ◌≤◌, ◌&&◌, ltb, List, Some, None, Option, refl, ap, ◌∙◌, arith}
use Rattle.std.specs.List.{slice_get}
use Rattle.std.proofs.lemmas.Bool.{lt-ltb, and_from, cond-true}
use Rattle.std.proofs.lemmas.Bool.Decides.{nat_tests}
use Rattle.record.specs.declared.run.Node.{Node}
use Rattle.record.specs.declared.index.Entry.{Entry}
use Rattle.record.specs.Run.{if_lower}
use Rattle.record.specs.Index.{lower_only, seen}
use Rattle.record.proofs.Looks.{left_is_lower}

pub seen_shown : (list : List Entry) (k : ℕ) (e : Entry) → slice_get list k ≡ Some e → e.node.inside ≤ k → e.node.after ≤ k → seen list (suc k) ≡ Some e.node
seen_shown list k e h i a =
    ap (lower_only (suc k)) h
    ∙ cond-true (ltb e.node.inside (suc k) && ltb e.node.after (suc k)) (Some e.node) None
    (and_from _ _ (lt-ltb e.node.inside (suc k) (omega arith)) (lt-ltb e.node.after (suc k) (omega arith)))

-- what is seen comes from an entry
pub record Shown (list : List Entry) (p : ℕ) (n : Node) : Type 0 where
  pub k : ℕ
  pub entry : Entry
  pub place_is : p ≡ suc k
  pub at : slice_get list k ≡ Some entry
  pub node_is : entry.node ≡ n
  pub inside_low : n.inside < p
  pub after_low : n.after < p

left_is : (p : ℕ) (m n : Node) → if_lower p m ≡ Some n → m ≡ n
left_is p m n h = grind (arith, nat_tests)

pub shown : (list : List Entry) (p : ℕ) (n : Node) → seen list p ≡ Some n → Shown list p n
shown list zero n h = let z : ◌≡◌ {A = ℕ} 0 1 = cc in absurd (omega arith)
shown list (suc k) n h = go (slice_get list k) refl h
  where
    go : (o : Option Entry) → slice_get list k ≡ o → lower_only (suc k) o ≡ Some n → Shown list (suc k) n
    go None e g = let z : ◌≡◌ {A = ℕ} 0 1 = cc in absurd (omega arith)
    go (Some x) e g =
        let l = left_is_lower (suc k) x.node n g in
        record { k = k; entry = x; place_is = refl; at = e; node_is = left_is (suc k) x.node n g; inside_low = l.0; after_low = l.1 }
