-- Why the places of an index list up to a top are those of a run.
use Rattle.std.specs.Prelude.{◌≡◌, ℕ, zero, suc, ◌-◌, ◌<◌, ◌≤◌, List, length, get_or, take, Some, None, Option}
use Rattle.std.specs.List.{slice_get}
use Rattle.std.proofs.Common.{sym, refl, ap, ◌∙◌, arith, get_or-take}
use Rattle.std.proofs.lemmas.Bool.Decides.{nat_tests}
use Rattle.std.proofs.lemmas.Option.{slice_get-get_or, slice_get_past}
use Rattle.std.proofs.lemmas.List.{length-take-le}
use Rattle.record.specs.declared.run.Node.{Node}
use Rattle.record.specs.declared.index.Entry.{Entry}
use Rattle.record.specs.Run.{Lower, if_lower, Places}
use Rattle.record.specs.Index.{lower_only, seen, lowered, shown}

-- a node that is left at a place names lower places
pub left_is_lower : (p : ℕ) (m n : Node) → if_lower p m ≡ Some n → (n.inside < p) × (n.after < p)
left_is_lower p m n h = grind (arith, nat_tests)

shown_is_lower : (p : ℕ) (o : Option Entry) (n : Node) → lower_only p o ≡ Some n → (n.inside < p) × (n.after < p)
shown_is_lower p None n h = grind arith
shown_is_lower p (Some e) n h = left_is_lower p e.node n h

pub seen_lower : (list : List Entry) → Lower (seen list)
seen_lower list zero n h = grind arith
seen_lower list (suc k) n h = shown_is_lower (suc k) (slice_get list k) n h

nothing_above : (list : List Entry) (top p : ℕ) → lowered list top < p → shown list top p ≡ None
nothing_above list top zero h = refl
nothing_above list top (suc k) h =
    let l : length (take (lowered list top) list) ≤ k = rw (length-take-le (lowered list top) list (omega arith)) (omega arith) in
    ap (lower_only (suc k)) (slice_get_past (take (lowered list top) list) k l)

-- a place up to the top shows its entry's node, if that names lower places
pub shown_at : (list : List Entry) (top p : ℕ) (d : Entry) → (p ≡ 0 → ⊥) → p ≤ lowered list top → lower_only p (Some (get_or list (p - 1) d)) ≡ shown list top p
shown_at list top zero d n h = absurd (n refl)
shown_at list top (suc k) d n h =
    let t : ℕ = lowered list top in
    let e : suc k - 1 ≡ k = omega arith in
    let len : length (take t list) ≡ t = length-take-le t list (omega arith) in
    let lt : k < t = omega arith in
    sym (ap (lower_only (suc k)) (slice_get-get_or (take t list) k d (omega arith) ∙ ap Some (get_or-take t list k d lt ∙ ap (λ j. get_or list j d) (sym e))))

pub shown_places : (list : List Entry) (top : ℕ) → Places (lowered list top) (shown list top)
shown_places list top = record { few = omega arith; lower = seen_lower (take (lowered list top) list); ends = nothing_above list top }
