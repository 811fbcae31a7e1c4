-- Which bytes are a record, and where and why others are refused.
use Rattle.std.specs.Prelude.{◌≡◌, ℕ, ◌+◌, ◌<◌, ◌≤◌, ◌⊎◌, List, length}
use Rattle.record.specs.declared.fault.Flaw.{Flaw}
use Rattle.record.specs.declared.fault.Flaw.TheVariants.{TooDeep, TooMany, CutShort, TextTooLong}
use Rattle.record.specs.Fault.{Fault, number, too_long, flawed}
use Rattle.record.specs.Limits.{max_bytes, max_nodes, max_levels}
use Rattle.record.specs.Numbers.{Bytes, value, between}
use Rattle.record.specs.Nodes.{Nodes, bytes_of, count, levels, Fit}

-- bytes are a record if they are those of a run of nodes within the limits
pub record IsRecord (bytes : List ℕ) : Type 0 where
  pub nodes : Nodes
  pub fits : Fit nodes
  pub spelt : bytes_of nodes ≡ bytes
  pub size : length bytes ≤ max_bytes
  pub number : count nodes ≤ max_nodes
  pub depth : levels nodes ≤ max_levels

-- the length and the text size of a node at an offset, and where its inside begins and the node ends
abbrev pub size_at : List ℕ → ℕ → ℕ
size_at bytes o = value (between bytes o (o + 4))

abbrev pub text_at : List ℕ → ℕ → ℕ
text_at bytes o = value (between bytes (o + 6) (o + 8))

abbrev pub inside_at : List ℕ → ℕ → ℕ
inside_at bytes o = o + 8 + text_at bytes o

abbrev pub end_at : List ℕ → ℕ → ℕ
end_at bytes o = o + 4 + size_at bytes o

-- a node at an offset, in a run up to `end`, at a level, with so many nodes before it, has this flaw first
abbrev pub Called : List ℕ → ℕ → ℕ → ℕ → ℕ → Flaw → Type 0
Called bytes o end level before TooDeep = max_levels < level
Called bytes o end level before TooMany = (level ≤ max_levels) × (max_nodes ≤ before)
Called bytes o end level before CutShort = (level ≤ max_levels) × (before < max_nodes) × ((end < o + 8) ⊎ ((size_at bytes o < 4) ⊎ (end < end_at bytes o)))
Called bytes o end level before TextTooLong =
    (level ≤ max_levels) × (before < max_nodes) × (o + 8 ≤ end) × (4 ≤ size_at bytes o) × (end_at bytes o ≤ end) × (end_at bytes o < inside_at bytes o)

-- it has no flaw
pub record Sound (bytes : List ℕ) (o end level before : ℕ) : Type 0 where
  pub level_fits : level ≤ max_levels
  pub number_fits : before < max_nodes
  pub head_fits : o + 8 ≤ end
  pub size_holds : 4 ≤ size_at bytes o
  pub size_fits : end_at bytes o ≤ end
  pub text_fits : inside_at bytes o ≤ end_at bytes o

-- the bytes from one offset to another are those of a run, within the limits at this level and with so many nodes before it
pub record Holds (bytes : List ℕ) (from to level before : ℕ) (nodes : Nodes) : Type 0 where
  pub fits : Fit nodes
  pub spelt : bytes_of nodes ≡ between bytes from to
  pub depth : level + levels nodes ≤ max_levels + 1
  pub number : before + count nodes ≤ max_nodes

-- a node is due at an offset, in a run up to `end`, at a level, with so many nodes before it in byte order, all of them sound
pub data Due (bytes : List ℕ) : ℕ → ℕ → ℕ → ℕ → Type 0 where
  first : 0 < length bytes → Due bytes 0 (length bytes) 1 0
  inside : {o end level before : ℕ} → Due bytes o end level before → Sound bytes o end level before
      → inside_at bytes o < end_at bytes o
      → Due bytes (inside_at bytes o) (end_at bytes o) (level + 1) (before + 1)
  after : {o end level before : ℕ} (nodes : Nodes) → Due bytes o end level before → Sound bytes o end level before
      → Holds bytes (inside_at bytes o) (end_at bytes o) (level + 1) (before + 1) nodes
      → end_at bytes o < end
      → Due bytes (end_at bytes o) end level (before + 1 + count nodes)

-- the first node at fault, in byte order
pub record Faulty (bytes : List ℕ) (e : Fault) : Type 0 where
  pub size : length bytes ≤ max_bytes
  pub offset : ℕ
  pub end : ℕ
  pub level : ℕ
  pub before : ℕ
  pub due : Due bytes offset end level before
  pub flaw : Flaw
  pub called : Called bytes offset end level before flaw
  pub is : e ≡ flawed flaw offset

-- the refusal of bytes as a record
abbrev pub Refused : List ℕ → Fault → Type 0
Refused bytes e = ((max_bytes < length bytes) × (e ≡ too_long)) ⊎ Faulty bytes e

-- a node is sound or has one flaw first
pub record OneFlaw : Type 0 where
  pub some : (bytes : List ℕ) (o end level before : ℕ) → Sound bytes o end level before ⊎ ((f : Flaw) × Called bytes o end level before f)
  pub not_both : (bytes : List ℕ) (o end level before : ℕ) (f : Flaw) → Sound bytes o end level before → Called bytes o end level before f → ⊥
  pub one : (bytes : List ℕ) (o end level before : ℕ) (f g : Flaw) → Called bytes o end level before f → Called bytes o end level before g → f ≡ g

-- all bytes are a record of one value, or refused in one way, and never both
pub record OneVerdict : Type 0 where
  pub some : (bytes : List ℕ) → Bytes bytes → IsRecord bytes ⊎ ((e : Fault) × Refused bytes e)
  pub one_value : (bytes : List ℕ) (r s : IsRecord bytes) → r.nodes ≡ s.nodes
  pub not_both : (bytes : List ℕ) (e : Fault) → IsRecord bytes → Refused bytes e → ⊥
  pub one_refusal : (bytes : List ℕ) (d e : Fault) → Refused bytes d → Refused bytes e → d ≡ e

-- bytes of a run that fits are refused for the limits of levels and nodes alone
abbrev pub OnlyLimits : Type 0
OnlyLimits = (n : Nodes) (e : Fault) → Fit n → length (bytes_of n) ≤ max_bytes → Refused (bytes_of n) e → (number e.cause ≡ 4) ⊎ (number e.cause ≡ 5)
