-- The calls up to an entry, and the call of that entry.
use Rattle.std.proofs.Common.{◌≡◌, ℕ, ◌+◌, ◌<◌, Bool, List, [], ◌∷◌, ◌++◌, length, get_or, take, Some, Option, Result, sym, ap, ◌∙◌, subst}
use Rattle.std.proofs.lemmas.List.{take_more, get_or_default}
use Rattle.table.specs.ClassFault.{ClassFault}
use Rattle.boxes.specs.Shelf.{Shelf, Box, SameLists}
use Rattle.boxes.specs.declared.shelf.Shelf.{Shelf as Lent}
use Rattle.notation.specs.declared.value.ClassText.{ClassText}
use Rattle.notation.specs.declared.value.TableText.{TableText}
use Rattle.notation.specs.declared.value.Entry.{Entry}
use Rattle.notation.specs.declared.value.Entry.TheVariants.{Pattern, Record}
use Rattle.replay.specs.Came.{Came, Entered, EntryStops, StoppedAt}
use Rattle.replay.specs.declared.stop.Stop.{Stop}
use Rattle.replay.specs.Came.Tells.{admits, files}

-- over two calls the lists stay the same
pub same_over : {C : Type 0} {old between new : Lent C} → SameLists old between → SameLists between new → SameLists old new
same_over a b =
    record { rules = b.rules ∙ a.rules; patterns = b.patterns ∙ a.patterns; records = b.records ∙ a.records; bytes = b.bytes ∙ a.bytes }

module _ {C : Type 0} (kinds : C → ℕ → Bool) (writes : ClassText → Option (Result C ClassFault) → Type 0) (form : TableText) where
  came_next : (es : List Entry) (e : Entry) (box box' : Box) (shelf shelf' : Shelf C)
      → Entered kinds writes e box shelf box' shelf' → Came kinds writes form es box shelf → Came kinds writes form (es ++ e ∷ []) box' shelf'
  came_next es (Pattern p) box box' shelf shelf' a so =
      record { events = _; tells = admits so.tells p a.pattern a.sheet a.helper a.written; history = a.leads so.events so.history }
  came_next es (Record r) box box' shelf shelf' f so =
      record { events = _; tells = files so.tells r f.index f.scratch; history = f.leads so.events so.history }

  pub came_more : (es : List Entry) (i : ℕ) (d e : Entry) (box box' : Box) (shelf shelf' : Shelf C) → i < length es → e ≡ get_or es i d
      → Entered kinds writes e box shelf box' shelf' → Came kinds writes form (take i es) box shelf → Came kinds writes form (take (i + 1) es) box' shelf'
  came_more es i d e box box' shelf shelf' h p a so =
      subst (λ xs. Came kinds writes form xs box' shelf') (ap (λ x. take i es ++ x ∷ []) p ∙ sym (take_more es i d h))
      (came_next (take i es) e box box' shelf shelf' a so)

  -- the call of an entry stops
  pub stopped_at : (es : List Entry) (i : ℕ) (d e : Entry) (box : Box) (start shelf shelf' : Shelf C) (stop : Stop) → i < length es → e ≡ get_or es i d → shelf' ≡ shelf
      → Came kinds writes form (take i es) box shelf → EntryStops kinds writes e box shelf stop → StoppedAt kinds writes form es start (Some i) stop shelf'
  stopped_at es i d e box start shelf shelf' stop h p same so r =
      subst (λ (z : Shelf C). StoppedAt kinds writes form es start (Some i) stop z) (sym same)
      (box, e, (h, get_or_default es i e d h ∙ sym p), so, r)
