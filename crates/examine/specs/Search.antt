-- What the parts of the search find and leave; no promise to a caller of the crate.
use Rattle.std.specs.Prelude.{◌≡◌, ℕ, zero, suc, ◌+◌, ◌*◌, ◌<◌, ◌≤◌, Bool, true, false, cond, not, ◌&&◌, ◌||◌, List, length, Ok, Err, Result, ◌==◌, ◌≢◌, slice_index, slice_set}
use Rattle.std.specs.Borrow.{GName}
use Rattle.table.specs.Sets.{bit}
use Rattle.table.specs.Table.{Tab, tab}
use Rattle.table.specs.Reading.{Reading, Skips}
use Rattle.table.specs.Check.{Named}
use Rattle.examine.specs.declared.fact.Sort.{Sort}
use Rattle.examine.specs.declared.fact.Sort.TheVariants.{Together, Poised, Apart}
use Rattle.examine.specs.declared.fact.Fact.{Fact}
use Rattle.examine.specs.declared.line.Line.{Line}
use Rattle.examine.specs.declared.line.LineStep.{LineStep}
use Rattle.examine.specs.declared.product.Product.{Product}
use Rattle.examine.specs.declared.product.Draft.{Draft}
use Rattle.examine.specs.declared.product.DoubleAt.{DoubleAt}
use Rattle.examine.specs.Facts.{about, together, poised, apart, Says, Leads}
use Rattle.examine.specs.Lines.{line_at, Follows, Good, Spells}

-- a form and a pattern with their state counts
pub record Setting (C : Type 0) : Type 0 where
  pub kinds : C → ℕ → Bool
  pub form : Tab C
  pub pattern : Tab C
  pub forms : ℕ
  pub states : ℕ

abbrev pub setting : {C : Type 0} → (C → ℕ → Bool) → Product C → Setting C
setting kinds p = record { kinds = kinds; form = tab p.form; pattern = tab p.pattern; forms = p.forms; states = p.states }

-- lines, the numbers of the helper, how many lines are used, and which two lists these are
pub record State : Type 0 where
  pub lines : List Line
  pub slots : List ℕ
  pub used : ℕ
  pub sheet : GName
  pub helper : GName

abbrev pub state : Draft → State
state d = record { lines = d.lines.now; slots = d.helper.now; used = d.used; sheet = d.lines.ghost_name; helper = d.helper.ghost_name }

abbrev pub code : Sort → ℕ
code Together = 0
code Poised = 1
code Apart = 2

-- the number of a fact, and how many facts there are
abbrev pub slot : ℕ → ℕ → Fact → ℕ
slot S Q x = ((code x.sort * S + x.form) * Q + x.first) * Q + x.second

abbrev pub most : ℕ → ℕ → ℕ
most S Q = 3 * S * Q * Q

-- a line that shows a fact of this sort shows one of that sort too
abbrev pub rest : Sort → Sort
rest Together = Together
rest Poised = Together
rest Apart = Apart

abbrev pub is_apart : Sort → Bool
is_apart Together = false
is_apart Poised = false
is_apart Apart = true

-- a number, unless there is one
abbrev pub noted : List ℕ → ℕ → ℕ → List ℕ
noted xs i j = cond (slice_index xs i == 0) (slice_set xs i j) xs

abbrev pub one_if : ℕ → ℕ
one_if zero = 0
one_if (suc n) = 1

-- how many of the first m numbers are not 0
unfoldable pub count : List ℕ → ℕ → ℕ
count xs zero = 0
count xs (suc m) = count xs m + one_if (slice_index xs m)

-- the fact that a line of these states may show
abbrev pub told : Sort → Line → Fact
told x l = about x l.form l.first l.second

-- line j shows a fact: it has its states, and spells readings of which the fact is true
pub record Shows (lines : ℕ → Line) (x : Fact) (j : ℕ) : Type 0 where
  pub form_is : (lines j).form ≡ x.form
  pub first_is : (lines j).first ≡ x.first
  pub second_is : (lines j).second ≡ x.second
  pub form : Reading
  pub first : Reading
  pub second : Reading
  pub spells : Spells lines j form first second
  pub says : Says x.sort first second

module _ {C : Type 0} (G : Setting C) where
  -- the states of a fact are below the state counts
  abbrev pub Low : Fact → Type 0
  Low x = (x.form < G.forms) × (x.first < G.states) × (x.second < G.states)

  -- the line of a fact, or 0
  abbrev pub line_of : State → Fact → ℕ
  line_of s x = slice_index s.slots (slot G.forms G.states x)

  -- a fact of start states with two readings that differ
  abbrev pub doubles : Fact → Bool
  doubles x =
      bit G.form.starts x.form
      && ((bit G.pattern.starts x.first && bit G.pattern.starts x.second) && (is_apart x.sort || not (x.first == x.second)))

  -- every state that the tables name is below the state counts, which are small
  pub record Bounded : Type 0 where
    pub forms_few : G.forms ≤ 32
    pub states_few : G.states ≤ 64
    pub form_states : (q : ℕ) → Named G.form q → q < G.forms
    pub pattern_states : (q : ℕ) → Named G.pattern q → q < G.states

-- a fact has a line
pub record Known {C : Type 0} (G : Setting C) (s : State) (x : Fact) : Type 0 where
  pub low : Low G x
  pub lined : 0 < line_of G s x

-- the lines are good, the helper points at them, and no double is known
pub record Fine {C : Type 0} (G : Setting C) (s : State) : Type 0 where
  pub bounded : Bounded G
  pub room : most G.forms G.states < length s.lines
  pub space : most G.forms G.states ≤ length s.slots
  pub begun : 0 < s.used
  pub counted : s.used ≤ count s.slots (most G.forms G.states) + 1
  pub good : (j : ℕ) → 0 < j → j < s.used → Good G.kinds G.form G.pattern (line_at s.lines) j
  pub low : (j : ℕ) → 0 < j → j < s.used → Low G (told Together (line_at s.lines j))
  pub shows : (x : Fact) → Known G s x → (line_of G s x < s.used) × Shows (line_at s.lines) x (line_of G s x)
  pub rests : (f p q : ℕ) → Known G s (poised f p q) → Known G s (together f p q)
  pub free : (x : Fact) → Known G s x → doubles G x ≡ false

-- lines are appended, and more is known
pub record Grown (s t : State) : Type 0 where
  pub more : s.used ≤ t.used
  pub same : (j : ℕ) → j < s.used → line_at t.lines j ≡ line_at s.lines j
  pub kept : (i : ℕ) → 0 < slice_index s.slots i → slice_index t.slots i ≡ slice_index s.slots i
  pub old : (i : ℕ) → slice_index t.slots i < s.used → slice_index t.slots i ≡ slice_index s.slots i

-- the two lists are the same
abbrev pub SameLists : State → State → Type 0
SameLists s t = (t.sheet ≡ s.sheet) × (t.helper ≡ s.helper)

-- the search goes on
pub record On {C : Type 0} (G : Setting C) (s t : State) : Type 0 where
  pub fine : Fine G t
  pub grown : Grown s t
  pub same : SameLists s t

-- the top line shows a double
pub record Found {C : Type 0} (G : Setting C) (s : State) (top : ℕ) : Type 0 where
  pub above : 0 < top
  pub few : top ≤ most G.forms G.states
  pub room : most G.forms G.states < length s.lines
  pub good : (j : ℕ) → 0 < j → j < top + 1 → Good G.kinds G.form G.pattern (line_at s.lines) j
  pub fact : Fact
  pub shows : Shows (line_at s.lines) fact top
  pub double : doubles G fact ≡ true

-- the search goes on with something done, or it has found a double
abbrev pub Went : {C : Type 0} → Setting C → State → State → (Setting C → State → State → Type 0) → Result (Unit {0}) DoubleAt → Type 0
Went G s t D (Ok u) = On G s t × D G s t
Went G s t D (Err d) = SameLists s t × Found G t d.top

-- a line may be added, for a fact of this sort
pub record Due {C : Type 0} (G : Setting C) (s : State) (x : Sort) (l : Line) : Type 0 where
  pub low : Low G (told x l)
  pub follows : Follows G.kinds G.form G.pattern (line_at s.lines) s.used l l.step
  pub form : Reading
  pub first : Reading
  pub second : Reading
  pub spells : (lines : ℕ → Line) → ((j : ℕ) → j < s.used → lines j ≡ line_at s.lines j) → lines s.used ≡ l → Spells lines s.used form first second
  pub says : Says x first second

-- line b is one of those used
abbrev pub Used : State → ℕ → Type 0
Used s b = (0 < b) × (b < s.used)

-- the draft is fine, and line b is one of its lines
pub record Ready {C : Type 0} (G : Setting C) (s : State) (b : ℕ) : Type 0 where
  pub fine : Fine G s
  pub used : Used s b

-- an empty rule leads from a fact, which line b may show, to another, both of states below the state counts
pub record Leading {C : Type 0} (G : Setting C) (b : ℕ) (x y : Fact) (e : LineStep) : Type 0 where
  pub before : Low G x
  pub after : Low G y
  pub rule : ℕ
  pub leads : Leads G.pattern b rule x y e

-- what empty rule r leads to, from the facts that line b shows, is known
abbrev pub LedBy : {C : Type 0} → Setting C → State → State → ℕ → ℕ → Type 0
LedBy G s t b r = (x y : Fact) (e : LineStep) → Leads G.pattern b r x y e → Known G s x → line_of G s x ≡ b → Known G t y

-- what the two empty rules r and r₂ lead to
abbrev pub Forked : {C : Type 0} → Setting C → State → State → ℕ → ℕ → ℕ → Type 0
Forked G s t b r r₂ = (f p u v : ℕ) → (r ≢ r₂) → Skips G.pattern r p u → Skips G.pattern r₂ p v → Known G s (together f u v) → line_of G s (together f u v) ≡ b → Known G t (apart f p)
