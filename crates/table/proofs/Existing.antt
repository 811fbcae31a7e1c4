-- Every run has a count under every table.
use Rattle.std.proofs.Common.{◌≡◌, ℕ, zero, suc, ◌+◌, ◌*◌, ◌^◌, ◌<◌, ◌≤◌, max, min, Bool, true, false, ◌&&◌, ◌||◌, eqb, ◌⊎◌, length, Some, None, Option, sym, refl, ap, ◌∙◌, subst, inl, inr, arith, pow_mono}
use lib.Bits.{bit_and, bit_or, or_lt}
use lib.Count.{leading_top, ones}
use Rattle.std.proofs.Math.Bool.{or-false}
use Rattle.std.proofs.lemmas.Nat.{le_or_l, pow_pos, pow_below}
use Rattle.std.proofs.lemmas.Bool.{cases_eq, cases_lt, cases_Bool}
use Rattle.record.specs.Run.{Run, nil, node}
use Rattle.table.specs.declared.rule.Rule.{Rule}
use Rattle.table.specs.Class.{Kind}
use Rattle.table.specs.Sets.{bit, Bit, Extent}
use Rattle.table.specs.Table.{Tab, At}
use Rattle.table.specs.Reading.{Counts}
use Rattle.table.specs.Check.{StateCount}
use Rattle.table.specs.Counting.{Sets, First, ends, slips, enters, Opens, Forks, Pair, Grounded, Base, Settling, Exact, Grows, takes_step, touches_step, slips_step}
use Rattle.table.proofs.Bits.{bit_of_or, bit_power, no_bit, below_power, top_bit}
use Rattle.table.proofs.Rules.{at_some}
use Rattle.table.proofs.Checking.{NamedBy, named_none, named_more, named_all}
use Rattle.table.proofs.Outcomes.{highest_of, ends_some}
use Rattle.table.proofs.Firsts.{Entering, Slipping, Telling, forks_open, end_base, entering_none, entering_passed, entering_taken, entering_all, slipping_none, slipping_passed, slipping_taken, slipping_all}
use Rattle.table.proofs.Rounds.{pairset, Sounds, Rounded, sounds_base, sounds_more, settled_all}
use Rattle.table.proofs.Told.{tells_many, tells_some, counted}

-- every table has a state count
named_some : {C : Type 0} (T : Tab C) (n : ℕ) → n ≤ length T.rules → (m : ℕ) × Extent (NamedBy T n) m
named_some T zero h = let e = ends_some T in (e.0, named_none T e.0 e.1)
named_some T (suc n) h =
    let p = named_some T n (omega arith) in
    let x = at_some T.rules n (omega arith) in
    let t = highest_of x.0.from x.0.to x.0.step in
    let e : n + 1 ≡ suc n = omega arith in
    (max p.0 (t.0 + 1), subst (λ k. Extent (NamedBy T k) (max p.0 (t.0 + 1))) e (named_more T n p.0 t.0 x.0 x.1 t.1 p.1))

pub count_some : {C : Type 0} (T : Tab C) → (m : ℕ) × StateCount T m
count_some T = let p = named_some T (length T.rules) (omega arith) in (p.0, named_all T (length T.rules) p.0 (omega arith) p.1)

-- a number whose bits are below n is below 2 ^ n
below_bits : (m n : ℕ) → ((q : ℕ) → Bit m q → q < n) → m < 2 ^ n
below_bits m n h =
    elim (cases_eq m 0) [
      | inl z ↦ let p = pow_pos n in omega arith
      | inr d ↦
          let t = leading_top m m (omega arith) (below_power m) in
          let l = h t.0 (top_bit m t.0 t.2 t.3) in
          let s : suc t.0 ≤ n = omega arith in
          omega (arith, t.3, pow_mono s)
    ]

-- two numbers below 2 ^ n as sets
pub record PairBelow (n : ℕ) (P : Sets → Type 0) : Type 0 where
  pub some : ℕ
  pub many : ℕ
  pub some_low : some < 2 ^ n
  pub many_low : many < 2 ^ n
  pub holds : P (pairset some many)

bit_put : (m k j : ℕ) → bit (bit_or m (2 ^ k)) j ≡ (bit m j || eqb k j)
bit_put m k j = bit_of_or m (2 ^ k) j ∙ ap (λ z. bit m j || z) (bit_power k j)

grown : (n q some many : ℕ) (twice : Bool) → q < n → some < 2 ^ n → many < 2 ^ n → PairBelow n (Grows q twice (pairset some many))
grown n q some many twice h s m =
    elim (cases_Bool (twice || bit some q)) [
      | inl e ↦ record {
        some = bit_or some (2 ^ q);
        many = bit_or many (2 ^ q);
        some_low = or_lt n some (2 ^ q) s (pow_below q n h);
        many_low = or_lt n many (2 ^ q) m (pow_below q n h);
        holds = record { somes = bit_put some q; manys = λ p. bit_put many q p ∙ ap (λ b. bit many p || (b && eqb q p)) (sym e) };
      }
      | inr e ↦ record {
        some = bit_or some (2 ^ q);
        many = many;
        some_low = or_lt n some (2 ^ q) s (pow_below q n h);
        many_low = m;
        holds = record { somes = bit_put some q; manys = λ p. sym (or-false (bit many p)) ∙ ap (λ b. bit many p || (b && eqb q p)) (sym e) };
      }
    ]

module _ {C : Type 0} (kinds : C → ℕ → Bool) (T : Tab C) (n : ℕ) (low : (i : ℕ) (x : Rule C) → At T.rules i x → x.from < n) where
  -- the base at a node, rule by rule
  node_upto : (k : ℕ) → Kind k → (i a : Sets) (r : ℕ) → r ≤ length T.rules → PairBelow n (λ S. (h : Sets) → Telling kinds T h i a (Some k) (Entering r) S)
  node_upto k small i a zero h =
      let p = pow_pos n in
      record { some = 0; many = 0; some_low = p; many_low = p; holds = λ g. entering_none kinds T g i a k (pairset 0 0) no_bit no_bit }
  node_upto k small i a (suc r) h =
      let x = at_some T.rules r (omega arith) in
      let t = takes_step kinds k i.some a.some x.0.to x.0.step in
      next (node_upto k small i a r (omega arith)) x (cases_Bool t)
    where
      e : r + 1 ≡ suc r
      e = omega arith

      next : PairBelow n (λ S. (h : Sets) → Telling kinds T h i a (Some k) (Entering r) S) → (x : (y : Rule C) × At T.rules r y)
          → ((takes_step kinds k i.some a.some x.0.to x.0.step ≡ true) ⊎ (takes_step kinds k i.some a.some x.0.to x.0.step ≡ false))
          → PairBelow n (λ S. (h : Sets) → Telling kinds T h i a (Some k) (Entering (suc r)) S)
      next p x (inr f) =
          record {
            some = p.some;
            many = p.many;
            some_low = p.some_low;
            many_low = p.many_low;
            holds = λ g. subst (λ z. Telling kinds T g i a (Some k) (Entering z) (pairset p.some p.many)) e
                (entering_passed kinds T g i a k r x.0 x.1 f (pairset p.some p.many) (p.holds g));
          }
      next p x (inl f) =
          let o = grown n x.0.from p.some p.many (touches_step i.many a.many x.0.to x.0.step) (low r x.0 x.1) p.some_low p.many_low in
          record {
            some = o.some;
            many = o.many;
            some_low = o.some_low;
            many_low = o.many_low;
            holds = λ g. subst (λ z. Telling kinds T g i a (Some k) (Entering z) (pairset o.some o.many)) e
                (entering_taken kinds T g i a k r small x.0 x.1 f (pairset p.some p.many) (pairset o.some o.many) o.holds (p.holds g));
          }

  -- a kind that is none is taken by no rule
  no_kind : (k : ℕ) → (Kind k → ⊥) → (i a : Sets) → Base kinds T (Some k) i a (pairset 0 0)
  no_kind k big i a h =
      record {
        somes = λ q. (λ e. absurd (no_bit q e), λ p. absurd (none q p.0 p.1 p.2));
        manys = λ q. (λ e. absurd (no_bit q e), λ p. absurd (pair q p));
      }
    where
      none : (q : ℕ) (x : First) → Grounded x → Opens kinds T (Some k) h i a q x → ⊥
      none q ends u o = o
      none q (slips r) u o = u
      none q (enters r) u o = big o.2.kind

      pair : (q : ℕ) → Pair Grounded (Opens kinds T (Some k) h i a q) (Forks kinds T (Some k) h i a q) → ⊥
      pair q (inl p) = none q p.0 p.1 (forks_open kinds T h i a (Some k) q p.0 p.2)
      pair q (inr p) = none q p.0 p.3 p.5

  node_base : (k : ℕ) (i a : Sets) → PairBelow n (λ S. Base kinds T (Some k) i a S)
  node_base k i a =
      elim (cases_lt k (2 ^ 16)) [
        | inl small ↦
            let p = node_upto k small i a (length T.rules) (omega arith) in
            record {
              some = p.some;
              many = p.many;
              some_low = p.some_low;
              many_low = p.many_low;
              holds = λ h. entering_all kinds T h i a k (length T.rules) (pairset p.some p.many) (omega arith) (p.holds h);
            }
        | inr big ↦ let p = pow_pos n in record { some = 0; many = 0; some_low = p; many_low = p; holds = no_kind k (λ s. omega arith) i a }
      ]

  -- one round, rule by rule
  module _ (base : Sets) (some many : ℕ) where
    abbrev Slipped : ℕ → Sets → Type 0
    Slipped r S = (o : Option ℕ) (i a : Sets) → Base kinds T o i a base → Telling kinds T (pairset some many) i a o (Slipping r) S

    round_upto : PairBelow n (λ S. S ≡ base) → (r : ℕ) → r ≤ length T.rules → PairBelow n (Slipped r)
    round_upto b zero h =
        record {
          some = b.some;
          many = b.many;
          some_low = b.some_low;
          many_low = b.many_low;
          holds = λ o i a x. subst (λ S. Telling kinds T (pairset some many) i a o (Slipping 0) S) (sym b.holds) (slipping_none kinds T (pairset some many) i a o base (x (pairset some many)));
        }
    round_upto b (suc r) h =
        let x = at_some T.rules r (omega arith) in
        next (round_upto b r (omega arith)) x (cases_Bool (slips_step (bit some) x.0.to x.0.step))
      where
        e : r + 1 ≡ suc r
        e = omega arith

        next : PairBelow n (Slipped r) → (x : (y : Rule C) × At T.rules r y)
            → ((slips_step (bit some) x.0.to x.0.step ≡ true) ⊎ (slips_step (bit some) x.0.to x.0.step ≡ false)) → PairBelow n (Slipped (suc r))
        next p x (inr f) =
            record {
              some = p.some;
              many = p.many;
              some_low = p.some_low;
              many_low = p.many_low;
              holds = λ o i a y. subst (λ z. Telling kinds T (pairset some many) i a o (Slipping z) (pairset p.some p.many)) e
                  (slipping_passed kinds T (pairset some many) i a o r x.0 x.1 f (pairset p.some p.many) (p.holds o i a y));
            }
        next p x (inl f) =
            let g = grown n x.0.from p.some p.many (bit many x.0.to) (low r x.0 x.1) p.some_low p.many_low in
            record {
              some = g.some;
              many = g.many;
              some_low = g.some_low;
              many_low = g.many_low;
              holds = λ o i a y. subst (λ z. Telling kinds T (pairset some many) i a o (Slipping z) (pairset g.some g.many)) e
                  (slipping_taken kinds T (pairset some many) i a o r x.0 x.1 f (pairset p.some p.many) (pairset g.some g.many) g.holds (p.holds o i a y));
            }

    round : PairBelow n (λ S. S ≡ base) → PairBelow n (Rounded kinds T base (pairset some many))
    round b =
        let p = round_upto b (length T.rules) (omega arith) in
        record {
          some = p.some;
          many = p.many;
          some_low = p.some_low;
          many_low = p.many_low;
          holds = λ o i a x. slipping_all kinds T (pairset some many) i a o (length T.rules) (pairset p.some p.many) (omega arith) (p.holds o i a x);
        }

  -- rounds, until nothing is new
  settle : (base : Sets) → PairBelow n (λ S. S ≡ base) → (fuel some many : ℕ) → some < 2 ^ n → many < 2 ^ n → 2 ^ n * 2 ≤ fuel + (some + many) → Sounds kinds T base (pairset some many)
      → PairBelow n (λ S. (o : Option ℕ) (i a : Sets) → Base kinds T o i a base → Settling kinds T o i a S)
  settle base b zero some many ls lm h sound = absurd (omega arith)
  settle base b (suc fuel) some many ls lm h sound =
      let r = round base some many b in
      let s' = bit_or some r.some in
      let m' = bit_or many r.many in
      let us = or_lt n some r.some ls r.some_low in
      let um = or_lt n many r.many lm r.many_low in
      let gs = le_or_l some r.some in
      let gm = le_or_l many r.many in
      let go = settle base b fuel s' m' us um in
      let more = sounds_more kinds T base some many r.some r.many r.holds sound in
      elim (cases_eq s' some) [
        | inr d ↦ go (omega arith) more
        | inl x ↦ elim (cases_eq m' many) [
          | inr d ↦ go (omega arith) more
          | inl y ↦ record {
            some = some;
            many = many;
            some_low = ls;
            many_low = lm;
            holds = settled_all kinds T base some many r.some r.many r.holds sound x y;
          }
        ]
      ]

  settled_from : (o : Option ℕ) (i a : Sets) → PairBelow n (λ S. Base kinds T o i a S) → PairBelow n (λ S. Settling kinds T o i a S)
  settled_from o i a b =
      let base = pairset b.some b.many in
      let p = settle base (record { some = b.some; many = b.many; some_low = b.some_low; many_low = b.many_low; holds = refl }) (2 ^ n * 2) b.some b.many
      b.some_low b.many_low (omega arith) (sounds_base kinds T base) in
      record { some = p.some; many = p.many; some_low = p.some_low; many_low = p.many_low; holds = p.holds o i a b.holds }

  exact_some : T.finals < 2 ^ n → (w : Run) → PairBelow n (Exact kinds T w)
  exact_some fin nil =
      let none = pairset 0 0 in
      let p = settled_from None none none (record {
        some = T.finals;
        many = 0;
        some_low = fin;
        many_low = pow_pos n;
        holds = λ h. end_base kinds T h none none (pairset T.finals 0) (λ q. refl) no_bit;
      }) in
      record { some = p.some; many = p.many; some_low = p.some_low; many_low = p.many_low; holds = p.holds nil refl tt }
  exact_some fin (node k v w) =
      let x = exact_some fin v in
      let y = exact_some fin w in
      let i = pairset x.some x.many in
      let a = pairset y.some y.many in
      let p = settled_from (Some k) i a (node_base k i a) in
      record { some = p.some; many = p.many; some_low = p.some_low; many_low = p.many_low; holds = p.holds (node k v w) refl (x.holds, y.holds) }

pub some_count : {C : Type 0} (kinds : C → ℕ → Bool) (T : Tab C) (w : Run) → (n : ℕ) × Counts kinds T w n
some_count kinds T w =
    let c = count_some T in
    let x = exact_some kinds T c.0 (λ i y at. c.1.below y.from (inr (i, y, at, inl refl))) (below_bits T.finals c.0 (λ q b. c.1.below q (inl (inr b)))) w in
    let S = pairset x.some x.many in
    let n = min (ones (bit_and T.starts x.some)) 2 in
    elim (cases_eq (bit_and T.starts x.many) 0) [
      | inl z ↦ (n, counted kinds T w S x.holds n (tells_some T.starts x.some x.many z n refl))
      | inr d ↦ (2, counted kinds T w S x.holds 2 (tells_many T.starts x.some x.many d))
    ]
