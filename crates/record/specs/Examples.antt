-- Small records, and refusals of small bytes.
use Rattle.std.specs.Prelude.{◌≡◌, ℕ, List, [], ◌∷◌, ◌++◌}
use Rattle.record.specs.declared.fault.Flaw.TheVariants.{CutShort, TextTooLong}
use Rattle.record.specs.Fault.{flawed}
use Rattle.record.specs.Nodes.{Nodes, nil, node}
use Rattle.record.specs.Record.{IsRecord, Refused}

-- one node of kind 2 with the text "12"
abbrev pub d : List ℕ
d = 6 ∷ 0 ∷ 0 ∷ 0 ∷ 2 ∷ 0 ∷ 2 ∷ 0 ∷ 0x31 ∷ 0x32 ∷ []

abbrev pub Is : List ℕ → Nodes → Type 0
Is bytes n = (r : IsRecord bytes) × (r.nodes ≡ n)

pub record Examples : Type 0 where
  pub empty : Is [] nil
  pub one : Is d (node 2 (0x31 ∷ 0x32 ∷ []) nil nil)
  pub two : Is (d ++ d) (node 2 (0x31 ∷ 0x32 ∷ []) nil (node 2 (0x31 ∷ 0x32 ∷ []) nil nil))
  pub nested : Is (14 ∷ 0 ∷ 0 ∷ 0 ∷ 1 ∷ 2 ∷ 0 ∷ 0 ∷ d) (node 513 [] (node 2 (0x31 ∷ 0x32 ∷ []) nil nil) nil)
  -- too few bytes for a head; a length below 4; a length past the end; all that after a sound node
  pub no_head : Refused (1 ∷ 2 ∷ 3 ∷ []) (flawed CutShort 0)
  pub too_small : Refused (3 ∷ 0 ∷ 0 ∷ 0 ∷ 0 ∷ 0 ∷ 0 ∷ 0 ∷ []) (flawed CutShort 0)
  pub past : Refused (5 ∷ 0 ∷ 0 ∷ 0 ∷ 0 ∷ 0 ∷ 0 ∷ 0 ∷ []) (flawed CutShort 0)
  pub past_later : Refused (d ++ (1 ∷ [])) (flawed CutShort 10)
  -- a text longer than its node, also inside a node
  pub text : Refused (4 ∷ 0 ∷ 0 ∷ 0 ∷ 0 ∷ 0 ∷ 1 ∷ 0 ∷ []) (flawed TextTooLong 0)
  pub text_inside : Refused (12 ∷ 0 ∷ 0 ∷ 0 ∷ 0 ∷ 0 ∷ 0 ∷ 0 ∷ 4 ∷ 0 ∷ 0 ∷ 0 ∷ 0 ∷ 0 ∷ 1 ∷ 0 ∷ []) (flawed TextTooLong 8)
