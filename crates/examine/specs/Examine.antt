-- What examining a pattern under a form answers.
use Rattle.std.specs.Prelude.{◌≡◌, ℕ, ◌+◌, ◌*◌, ◌<◌, ◌≤◌, Bool, ◌⊎◌, List, length, Result, MatchResult, ◌≢◌}
use Rattle.record.specs.Limits.{max_place}
use Rattle.record.specs.Run.{Run, run_at}
use Rattle.table.specs.declared.fault.Role.TheVariants.{Form, Pattern}
use Rattle.table.specs.declared.fault.Cause.TheVariants.{ShortBuffer, Double}
use Rattle.table.specs.declared.fault.Fault.{Fault}
use Rattle.table.specs.Fault.{refusal}
use Rattle.table.specs.Sets.{Bit}
use Rattle.table.specs.Table.{Tab}
use Rattle.table.specs.Check.{SoundTable, FaultyTable, StateCount}
use Rattle.table.specs.Reading.{Reading, Reads, Twofold}
use Rattle.examine.specs.declared.line.Line.{Line}
use Rattle.examine.specs.Lines.{line_at, Good, Spells}
use Rattle.examine.specs.Sheet.{lowered, shown}

-- how many lines, and as many numbers of the helper, are needed: a line for each of three facts about a form state and two pattern states, and line 0
pub record Needs {C : Type 0} (F P : Tab C) (n : ℕ) : Type 0 where
  pub forms : ℕ
  pub states : ℕ
  pub forms_are : StateCount F forms
  pub states_are : StateCount P states
  pub is : n ≡ 3 * forms * states * states + 1

-- form and pattern are sound, and sheet and helper are long enough
pub record Examinable {C : Type 0} (F P : Tab C) (lines numbers : ℕ) : Type 0 where
  pub form : SoundTable Form F
  pub pattern : SoundTable Pattern P
  pub needed : ℕ
  pub needs : Needs F P needed
  pub room : needed ≤ lines
  pub space : needed ≤ numbers

-- the run that a sheet up to a line shows
abbrev pub run_of : List Line → ℕ → Run
run_of sheet top = run_at (shown sheet top) (lowered sheet top)

-- lines 1 to top are good, and the top line, of start states, spells a reading of its run by the form and two by the pattern that differ
pub record Shown {C : Type 0} (kinds : C → ℕ → Bool) (F P : Tab C) (sheet : List Line) (top : ℕ) : Type 0 where
  pub above : 0 < top
  pub within : top < length sheet
  pub few : top ≤ max_place
  pub good : (j : ℕ) → 0 < j → j ≤ top → Good kinds F P (line_at sheet) j
  pub form_starts : Bit F.starts (line_at sheet top).form
  pub first_starts : Bit P.starts (line_at sheet top).first
  pub second_starts : Bit P.starts (line_at sheet top).second
  pub form : Reading
  pub first : Reading
  pub second : Reading
  pub spells : Spells (line_at sheet) top form first second
  pub form_reads : Reads kinds F (line_at sheet top).form (run_of sheet top) form
  pub first_reads : Reads kinds P (line_at sheet top).first (run_of sheet top) first
  pub second_reads : Reads kinds P (line_at sheet top).second (run_of sheet top) second
  pub differ : (line_at sheet top).first ≡ (line_at sheet top).second → first ≢ second

-- some run fits and has two readings, and the sheet shows one
pub record Doubled {C : Type 0} (kinds : C → ℕ → Bool) (F P : Tab C) (sheet : List Line) (e : Fault) : Type 0 where
  pub top : ℕ
  pub is : e ≡ refusal Pattern Double top
  pub twofold : Twofold kinds F P
  pub shows : Shown kinds F P sheet top

-- sheet or helper is too short
pub record Short {C : Type 0} (F P : Tab C) (lines numbers : ℕ) (e : Fault) : Type 0 where
  pub form : SoundTable Form F
  pub pattern : SoundTable Pattern P
  pub needed : ℕ
  pub needs : Needs F P needed
  pub lacks : (lines < needed) ⊎ (numbers < needed)
  pub is : e ≡ refusal Pattern ShortBuffer needed

-- why a pattern is refused: the form is at fault, else the pattern, else sheet or helper is too short, else some run has two readings
abbrev pub Refused : {C : Type 0} → (C → ℕ → Bool) → Tab C → Tab C → ℕ → ℕ → List Line → Fault → Type 0
Refused kinds F P lines numbers sheet e =
    FaultyTable Form F e
    ⊎ (SoundTable Form F × FaultyTable Pattern P e)
    ⊎ Short F P lines numbers e
    ⊎ (Examinable F P lines numbers × Doubled kinds F P sheet e)

-- what examining answers, and the sheet after it
abbrev pub Examines : {C : Type 0} → (C → ℕ → Bool) → Tab C → Tab C → ℕ → ℕ → List Line → Result (Unit {0}) Fault → Type 0
Examines kinds F P lines numbers sheet r = MatchResult r (λ _. Examinable F P lines numbers × (Twofold kinds F P → ⊥)) (λ e. Refused kinds F P lines numbers sheet e)
