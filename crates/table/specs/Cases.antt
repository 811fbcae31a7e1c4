-- Twelve cases of fitting, counting and doubles, over masks. {k} is the class of kind k alone, and a:C[i]b a rule from a to b with class C and inside state i.
use Rattle.std.specs.Prelude.{ℕ, Bool, [], ◌∷◌, ◌++◌}
use Rattle.record.specs.Record.{IsRecord}
use Rattle.record.specs.Index.{erase}
use Rattle.record.specs.Examples.{d}
use Rattle.table.specs.declared.mask.Mask.{Mask}
use Rattle.table.specs.declared.rule.Rule.{Rule}
use Rattle.table.specs.declared.rule.Step.TheVariants.{Empty, Node}
use Rattle.table.specs.Mask.{mask_kinds}
use Rattle.table.specs.Table.{Tab}
use Rattle.table.specs.Reading.{Fits, Counts, Twofold}

abbrev pub kinds : Mask → ℕ → Bool
kinds m = mask_kinds m.bits

-- a:C[i]b, with marks
abbrev pub takes : ℕ → ℕ → ℕ → ℕ → ℕ → Rule Mask
takes a c i b marks = record { from = a; to = b; step = Node (record { bits = c }) i marks }

-- an empty rule from a to b
abbrev pub slips : ℕ → ℕ → Rule Mask
slips a b = record { from = a; to = b; step = Empty }

-- start 0, final 0 and 1: 0:{2}[1]0
abbrev pub F : Tab Mask
F = record { starts = 1; finals = 3; rules = takes 0 4 1 0 0 ∷ [] }

-- start 0, final 1: 0:{2}[1]1
abbrev pub G : Tab Mask
G = record { starts = 1; finals = 2; rules = takes 0 4 1 1 0 ∷ [] }

-- start 0, final 1 and 2: 0:{1,2,3}[2]0, 0:{2}[2]1 with mark 0, 1:{2}[2]1
abbrev pub P : Tab Mask
P = record { starts = 1; finals = 6; rules = takes 0 14 2 0 0 ∷ takes 0 4 2 1 1 ∷ takes 1 4 2 1 0 ∷ [] }

-- start and final 0: an empty rule from 0 to 0
abbrev pub E : Tab Mask
E = record { starts = 1; finals = 1; rules = slips 0 0 ∷ [] }

-- start 0, final 1: an empty rule from 0 to 1
abbrev pub H : Tab Mask
H = record { starts = 1; finals = 2; rules = slips 0 1 ∷ [] }

-- as G, the rule twice, with marks 0 and 1
abbrev pub M : Tab Mask
M = record { starts = 1; finals = 2; rules = takes 0 4 1 1 1 ∷ takes 0 4 1 1 2 ∷ [] }

-- start 0, final 1: 0:{2}[2]1 twice
abbrev pub N : Tab Mask
N = record { starts = 1; finals = 2; rules = takes 0 4 2 1 0 ∷ takes 0 4 2 1 0 ∷ [] }

pub record Cases : Type 0 where
  -- the empty record fits F, and not G
  pub fits_F : (r : IsRecord []) → Fits kinds F (erase r.nodes)
  pub not_G : (r : IsRecord []) → Fits kinds G (erase r.nodes) → ⊥
  -- under P the empty record has no reading, d has one, and d twice has two
  pub none_P : (r : IsRecord []) → Counts kinds P (erase r.nodes) 0
  pub one_P : (r : IsRecord d) → Counts kinds P (erase r.nodes) 1
  pub two_P : (r : IsRecord (d ++ d)) → Counts kinds P (erase r.nodes) 2
  -- under E the empty record has two
  pub two_E : (r : IsRecord []) → Counts kinds E (erase r.nodes) 2
  -- a run that fits F has two readings under P; none that fits G has
  pub PUnderF : Twofold kinds F P
  pub PUnderG : Twofold kinds G P → ⊥
  -- one that fits F has two under E; none has under H
  pub EUnderF : Twofold kinds F E
  pub HUnderF : Twofold kinds F H → ⊥
  -- one that fits G has two under M; none has under N
  pub MUnderG : Twofold kinds G M
  pub NUnderG : Twofold kinds G N → ⊥
