-- The twelve cases, by their readings.
use Rattle.std.proofs.Common.{◌≡◌, ℕ, zero, suc, ◌<◌, true, ◌⊎◌, List, [], ◌∷◌, ◌++◌, sym, refl, ap, ◌∙◌, subst, ap₂, inl, inr, arith, lit<}
use Rattle.std.proofs.lemmas.Bool.{false≢true, eqb-true}
use Rattle.record.specs.Record.{IsRecord}
use Rattle.record.specs.Index.{erase}
use Rattle.record.specs.Examples.{d}
use Rattle.record.specs.Run.{Run, nil, node}
use Rattle.record.proofs.Examples.{examples_hold}
use Rattle.record.proofs.Verdict.{one_verdict}
use Rattle.table.specs.declared.mask.Mask.{Mask}
use Rattle.table.specs.declared.rule.Rule.{Rule}
use Rattle.table.specs.declared.rule.Step.{Step}
use Rattle.table.specs.declared.rule.Step.TheVariants.{Empty, Node}
use Rattle.table.specs.Sets.{bit, Bit}
use Rattle.table.specs.Table.{Tab, At}
use Rattle.table.specs.Reading.{Reading, stop, skip, take, Skips, Takes, Reads, Whole, Fits, Single, Two, Counts, Twofold}
use Rattle.table.specs.Cases.{kinds, takes, F, G, P, E, H, M, N, Cases}
use Rattle.table.proofs.Bits.{no_bit_from, bit_power}
use Rattle.table.proofs.Apart.{first, ends_slips, take_rule}
use Rattle.table.proofs.One.{not_both}

abbrev one : Run
one = node 2 nil nil

abbrev two : Run
two = node 2 nil one

-- the runs of the records
empty_run : (r : IsRecord []) → erase r.nodes ≡ nil
empty_run r = ap erase (one_verdict.one_value [] r examples_hold.empty.0 ∙ examples_hold.empty.1)

one_run : (r : IsRecord d) → erase r.nodes ≡ one
one_run r = ap erase (one_verdict.one_value d r examples_hold.one.0 ∙ examples_hold.one.1)

two_run : (r : IsRecord (d ++ d)) → erase r.nodes ≡ two
two_run r = ap erase (one_verdict.one_value (d ++ d) r examples_hold.two.0 ∙ examples_hold.two.1)

-- rule r of a table takes a node
took : (T : Tab Mask) (r a c i b m k : ℕ) → At T.rules r (takes a c i b m) → k < 65536 → kinds (record { bits = c }) k ≡ true → Takes kinds T r a k i b
took T r a c i b m k at small has = record { class = record { bits = c }; marks = m; rule = at; kind = small; has = has }

-- the one start state
start_zero : (q : ℕ) → Bit 1 q → q ≡ 0
start_zero zero b = refl
start_zero (suc q) b = absurd (no_bit_from 1 1 (suc q) (lit< tt) (omega arith) b)

fits_F : Fits kinds F nil
fits_F = record { state = 0; reading = stop; starts = refl; reads = refl }

-- lists without empty rules, and without node rules
abbrev IsNode : Step Mask → Type 0
IsNode Empty = ⊥
IsNode (Node c s m) = Unit {0}

abbrev IsEmpty : Step Mask → Type 0
IsEmpty Empty = Unit {0}
IsEmpty (Node c s m) = ⊥

abbrev All : (Step Mask → Type 0) → List (Rule Mask) → Type 0
All Q [] = Unit {0}
All Q (x ∷ xs) = (Q x.step) × (All Q xs)

all_at : (Q : Step Mask → Type 0) (xs : List (Rule Mask)) → All Q xs → (r : ℕ) (x : Rule Mask) → At xs r x → Q x.step
all_at Q [] n r x at = absurd (omega (arith, at.0))
all_at Q (y ∷ ys) n zero x at = subst (λ (z : Rule Mask). Q z.step) at.1 n.0
all_at Q (y ∷ ys) n (suc r) x at = all_at Q ys n.1 r x (omega (arith, at.0), at.1)

abbrev Plain : Tab Mask → Type 0
Plain T = All IsNode T.rules

no_skip : (T : Tab Mask) → Plain T → (r q t : ℕ) → Skips T r q t → ⊥
no_skip T n r q t k = all_at IsNode T.rules n r _ k

-- a reading of the empty run stops
stops : (T : Tab Mask) → Plain T → (q : ℕ) (ρ : Reading) → Reads kinds T q nil ρ → (ρ ≡ stop) × Bit T.finals q
stops T n q stop x = (refl, x)
stops T n q (skip r ρ) x = absurd (no_skip T n r q x.0 x.1)
stops T n q (take r ρ σ) x = absurd x

-- a node rule that is this one
same_takes : (a c i b m q s t : ℕ) (cl : Mask) (mk : ℕ) → ◌≡◌ {A = Rule Mask} (takes a c i b m) (record { from = q; to = t; step = Node cl s mk })
    → (a ≡ q) × (b ≡ t) × (i ≡ s) × (record { bits = c } ≡ cl)
same_takes a c i b m q s t cl mk e =
    let st : Node (record { bits = c }) i m ≡ Node cl s mk = ap (λ (x : Rule Mask). x.step) e in
    let y : i ≡ s = cc in
    let z : record { bits = c } ≡ cl = cc in
    (ap (λ (x : Rule Mask). x.from) e, ap (λ (x : Rule Mask). x.to) e, y, z)

-- which rules take a node
abbrev ByP : ℕ → ℕ → ℕ → Type 0
ByP r q t = ((r ≡ 0) × (q ≡ 0) × (t ≡ 0)) ⊎ (((r ≡ 1) × (q ≡ 0) × (t ≡ 1)) ⊎ ((r ≡ 2) × (q ≡ 1) × (t ≡ 1)))

takes_P : (r q k s t : ℕ) → Takes kinds P r q k s t → ByP r q t
takes_P zero q k s t x = let e = same_takes 0 14 2 0 0 q s t x.class x.marks x.rule.1 in inl (refl, sym e.0, sym e.1)
takes_P (suc zero) q k s t x = let e = same_takes 0 4 2 1 1 q s t x.class x.marks x.rule.1 in inr (inl (refl, sym e.0, sym e.1))
takes_P (suc (suc zero)) q k s t x = let e = same_takes 1 4 2 1 0 q s t x.class x.marks x.rule.1 in inr (inr (refl, sym e.0, sym e.1))
takes_P (suc (suc (suc r))) q k s t x = absurd (omega (arith, x.rule.0))

takes_G : (r q k s t : ℕ) → Takes kinds G r q k s t → (q ≡ 0) × (s ≡ 1) × (t ≡ 1) × (k ≡ 2)
takes_G zero q k s t x =
    let e = same_takes 0 4 1 1 0 q s t x.class x.marks x.rule.1 in
    let h : kinds (record { bits = 4 }) k ≡ true = ap (λ (c : Mask). kinds c k) e.3 ∙ x.has in
    (sym e.0, sym e.2, sym e.1, sym (eqb-true 2 k (sym (bit_power 2 k) ∙ h)))
takes_G (suc r) q k s t x = absurd (omega (arith, x.rule.0))

takes_N : (r q k s t : ℕ) → Takes kinds N r q k s t → s ≡ 2
takes_N zero q k s t x = sym (same_takes 0 4 2 1 0 q s t x.class x.marks x.rule.1).2
takes_N (suc zero) q k s t x = sym (same_takes 0 4 2 1 0 q s t x.class x.marks x.rule.1).2
takes_N (suc (suc r)) q k s t x = absurd (omega (arith, x.rule.0))

-- readings from the start state of a table
from_start : (T : Tab Mask) → T.starts ≡ 1 → (w : Run) (x : Whole kinds T w) → (x.state ≡ 0) × Reads kinds T 0 w x.reading
from_start T e w x =
    let z : x.state ≡ 0 = start_zero x.state (ap (λ m. bit m x.state) (sym e) ∙ x.starts) in
    (z, subst (λ q. Reads kinds T q w x.reading) z x.reads)

not_G : Fits kinds G nil → ⊥
not_G x = let y = from_start G refl nil x in false≢true (stops G (tt, tt) 0 x.reading y.1).1

none_P : Counts kinds P nil 0
none_P x = let y = from_start P refl nil x in false≢true (stops P (tt, (tt, (tt, tt))) 0 x.reading y.1).1

-- under P, d has one reading
POne : (ρ : Reading) → Reads kinds P 0 one ρ → ρ ≡ take 1 stop stop
POne stop x = absurd x
POne (skip r ρ) x = absurd (no_skip P (tt, (tt, (tt, tt))) r 0 x.0 x.1)
POne (take r ρ σ) x = go (takes_P r 0 2 x.0 x.1 x.2)
  where
    inner : ρ ≡ stop
    inner = (stops P (tt, (tt, (tt, tt))) x.0 ρ x.3).0

    outer : (σ ≡ stop) × Bit 6 x.1
    outer = stops P (tt, (tt, (tt, tt))) x.1 σ x.4

    go : ByP r 0 x.1 → take r ρ σ ≡ take 1 stop stop
    go (inl e) = absurd (false≢true (subst (λ q. Bit 6 q) e.2 outer.1))
    go (inr (inl e)) = ap₂ (λ z ρ'. take z ρ' σ) e.0 inner ∙ ap (λ σ'. take 1 stop σ') outer.0
    go (inr (inr e)) = absurd (omega (arith, e.1))

one_P : Single kinds P one
one_P =
    record {
      whole = record {
        state = 0;
        reading = take 1 stop stop;
        starts = refl;
        reads = (2, 1, took P 1 0 4 2 1 1 2 (omega arith, refl) (lit< tt) refl, refl, refl);
      };
      alone = λ x. let y = from_start P refl one x in (sym y.0, sym (POne x.reading y.1));
    }

two_P : Two kinds P two
two_P =
    record {
      one = record {
        state = 0;
        reading = take 0 stop (take 1 stop stop);
        starts = refl;
        reads = (2, 0, took P 0 0 14 2 0 0 2 (omega arith, refl) (lit< tt) refl, refl, (2, 1, took P 1 0 4 2 1 1 2 (omega arith, refl) (lit< tt) refl, refl, refl));
      };
      other = record {
        state = 0;
        reading = take 1 stop (take 2 stop stop);
        starts = refl;
        reads = (2, 1, took P 1 0 4 2 1 1 2 (omega arith, refl) (lit< tt) refl, refl, (2, 1, took P 2 1 4 2 1 0 2 (omega arith, refl) (lit< tt) refl, refl, refl));
      };
      differ = λ e. let z = take_rule e.1 in omega arith;
    }

two_E : Two kinds E nil
two_E =
    record {
      one = record { state = 0; reading = stop; starts = refl; reads = refl };
      other = record { state = 0; reading = skip 0 stop; starts = refl; reads = (0, (omega arith, refl), refl) };
      differ = λ e. let f = ap first e.1 in ends_slips 0 f;
    }

fits_F_two : Fits kinds F two
fits_F_two =
    record {
      state = 0;
      reading = take 0 stop (take 0 stop stop);
      starts = refl;
      reads = (1, 0, took F 0 0 4 1 0 0 2 (omega arith, refl) (lit< tt) refl, refl, (1, 0, took F 0 0 4 1 0 0 2 (omega arith, refl) (lit< tt) refl, refl, refl));
    }

fits_G_one : Fits kinds G one
fits_G_one = record { state = 0; reading = take 0 stop stop; starts = refl; reads = (1, 1, took G 0 0 4 1 1 0 2 (omega arith, refl) (lit< tt) refl, refl, refl) }

two_M : Two kinds M one
two_M =
    record {
      one = record { state = 0; reading = take 0 stop stop; starts = refl; reads = (1, 1, took M 0 0 4 1 1 1 2 (omega arith, refl) (lit< tt) refl, refl, refl) };
      other = record { state = 0; reading = take 1 stop stop; starts = refl; reads = (1, 1, took M 1 0 4 1 1 2 2 (omega arith, refl) (lit< tt) refl, refl, refl) };
      differ = λ e. let z = take_rule e.1 in omega arith;
    }

-- only d fits G
GAfter : (w : Run) (ρ : Reading) → Reads kinds G 1 w ρ → w ≡ nil
GAfter nil ρ x = refl
GAfter (node k i a) stop x = absurd x
GAfter (node k i a) (skip r ρ) x = absurd (no_skip G (tt, tt) r 1 x.0 x.1)
GAfter (node k i a) (take r ρ σ) x = let e = takes_G r 1 k x.0 x.1 x.2 in absurd (omega (arith, e.0))

GRun : (w : Run) (ρ : Reading) → Reads kinds G 0 w ρ → w ≡ one
GRun nil ρ x = absurd (false≢true (stops G (tt, tt) 0 ρ x).1)
GRun (node k i a) stop x = absurd x
GRun (node k i a) (skip r ρ) x = absurd (no_skip G (tt, tt) r 0 x.0 x.1)
GRun (node k i a) (take r ρ σ) x =
    let e = takes_G r 0 k x.0 x.1 x.2 in
    let u : i ≡ nil = GAfter i ρ (subst (λ q. Reads kinds G q i ρ) e.1 x.3) in
    let v : a ≡ nil = GAfter a σ (subst (λ q. Reads kinds G q a σ) e.2 x.4) in
    ap₂ (λ z y. node z y a) e.3 u ∙ ap (λ y. node 2 nil y) v

fits_G : (w : Run) → Fits kinds G w → w ≡ one
fits_G w x = GRun w x.reading (from_start G refl w x).1

PUnderG : Twofold kinds G P → ⊥
PUnderG t = not_both kinds P one one_P (subst (Two kinds P) (fits_G t.0 t.1) t.2)

-- under N, d has no reading
none_N : (ρ : Reading) → Reads kinds N 0 one ρ → ⊥
none_N stop x = x
none_N (skip r ρ) x = no_skip N (tt, (tt, tt)) r 0 x.0 x.1
none_N (take r ρ σ) x =
    let e = takes_N r 0 2 x.0 x.1 x.2 in
    false≢true (subst (λ q. Bit 2 q) e (stops N (tt, (tt, tt)) x.0 ρ x.3).1)

NUnderG : Twofold kinds G N → ⊥
NUnderG t =
    let w = subst (Two kinds N) (fits_G t.0 t.1) t.2 in none_N w.one.reading (from_start N refl one w.one).1

-- under H, every reading takes the empty rule and stops
skips_H : (r q t : ℕ) → Skips H r q t → (r ≡ 0) × (q ≡ 0) × (t ≡ 1)
skips_H zero q t k = (refl, sym (ap (λ (x : Rule Mask). x.from) k.1), sym (ap (λ (x : Rule Mask). x.to) k.1))
skips_H (suc r) q t k = absurd (omega (arith, k.0))

no_take_H : (r q k s t : ℕ) → Takes kinds H r q k s t → ⊥
no_take_H r q k s t x = all_at IsEmpty H.rules (tt, tt) r _ x.rule

HAfter : (w : Run) (ρ : Reading) → Reads kinds H 1 w ρ → ρ ≡ stop
HAfter w stop x = refl
HAfter w (skip r ρ) x = let e = skips_H r 1 x.0 x.1 in absurd (omega (arith, e.1))
HAfter nil (take r ρ σ) x = absurd x
HAfter (node k i a) (take r ρ σ) x = absurd (no_take_H r 1 k x.0 x.1 x.2)

HReading : (w : Run) (ρ : Reading) → Reads kinds H 0 w ρ → ρ ≡ skip 0 stop
HReading nil stop x = absurd (false≢true x)
HReading (node k i a) stop x = absurd x
HReading w (skip r ρ) x =
    let e = skips_H r 0 x.0 x.1 in ap₂ skip e.0 (HAfter w ρ (subst (λ q. Reads kinds H q w ρ) e.2 x.2))
HReading nil (take r ρ σ) x = absurd x
HReading (node k i a) (take r ρ σ) x = absurd (no_take_H r 0 k x.0 x.1 x.2)

HUnderF : Twofold kinds F H → ⊥
HUnderF t =
    let w = t.0 in
    let x = from_start H refl w t.2.one in
    let y = from_start H refl w t.2.other in
    t.2.differ (x.0 ∙ sym y.0, HReading w t.2.one.reading x.1 ∙ sym (HReading w t.2.other.reading y.1))

pub cases_hold : Cases
cases_hold =
    record {
      fits_F = λ r. subst (Fits kinds F) (sym (empty_run r)) fits_F;
      not_G = λ r x. not_G (subst (Fits kinds G) (empty_run r) x);
      none_P = λ r. subst (λ w. Counts kinds P w 0) (sym (empty_run r)) none_P;
      one_P = λ r. subst (λ w. Counts kinds P w 1) (sym (one_run r)) one_P;
      two_P = λ r. subst (λ w. Counts kinds P w 2) (sym (two_run r)) two_P;
      two_E = λ r. subst (λ w. Counts kinds E w 2) (sym (empty_run r)) two_E;
      PUnderF = (two, fits_F_two, two_P);
      PUnderG = PUnderG;
      EUnderF = (nil, fits_F, two_E);
      HUnderF = HUnderF;
      MUnderG = (one, fits_G_one, two_M);
      NUnderG = NUnderG;
    }
