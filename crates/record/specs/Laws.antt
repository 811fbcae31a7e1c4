-- The laws of records, of their index and of runs.
use Rattle.std.specs.Prelude.{◌≡◌, ℕ, List, length, take, Result}
use Rattle.record.specs.declared.index.Entry.{Entry}
use Rattle.record.specs.Fault.{Fault}
use Rattle.record.specs.Numbers.{NumbersKept}
use Rattle.record.specs.Nodes.{Injective}
use Rattle.record.specs.Record.{OneFlaw, OneVerdict, OnlyLimits}
use Rattle.record.specs.Run.{Unfolds}
use Rattle.record.specs.Index.{IndexedAs, Indexes, IndexHolds, Offsets}
use Rattle.record.specs.Text.{Texted, Untexted}
use Rattle.record.specs.Examples.{Examples}

-- what the calls promise leaves one answer
pub record OneOutcome : Type 0 where
  pub index : (bytes : List ℕ) (old new new' : List Entry) → length old ≡ length new → length old ≡ length new' → (r s : Result ℕ Fault) → Indexes bytes old new r → Indexes bytes old new' s → r ≡ s
  pub filled : (bytes : List ℕ) (new new' : List Entry) (n : ℕ) → IndexedAs bytes new n → IndexedAs bytes new' n → take n new ≡ take n new'
  pub text : (bytes : List ℕ) (o : ℕ) (s t : List ℕ) → Texted bytes o s → Texted bytes o t → s ≡ t
  pub no_text : (bytes : List ℕ) (o : ℕ) (d e : Fault) → Untexted bytes o d → Untexted bytes o e → d ≡ e
  pub text_or_not : (bytes : List ℕ) (o : ℕ) (s : List ℕ) (e : Fault) → Texted bytes o s → Untexted bytes o e → ⊥

pub record Laws : Type 0 where
  -- a number comes back from its bytes, and bytes from their number
  pub numbers : NumbersKept
  -- runs of nodes that fit and have the same bytes are the same
  pub injective : Injective
  -- a node is sound, or has one flaw first
  pub flaws : OneFlaw
  -- all bytes are a record of one value, or refused in one way, and never both
  pub verdict : OneVerdict
  -- bytes of nodes that fit are refused for the limits alone
  pub limits : OnlyLimits
  -- the run at a place, without fuel
  pub unfolds : Unfolds
  -- the entries of a record spell its run, tell of its nodes, and name no node twice
  pub index : IndexHolds
  -- in a record, the nodes that are due are those of the entries
  pub offsets : Offsets
  -- index and text have one outcome
  pub outcomes : OneOutcome
  -- small records, and refusals of small bytes
  pub examples : Examples
