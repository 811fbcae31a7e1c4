-- What is written after what is there.
use Rattle.std.specs.Prelude.{◌≡◌, ℕ, List, ◌++◌, vec_items, Vec}
use Rattle.std.specs.declared.alloc.Global.{Global}

-- the bytes that were added, of which something holds
pub record Adds (before after : Vec ℕ Global) (P : List ℕ → Type 0) : Type 0 where
  pub added : List ℕ
  pub says : P added
  pub all : vec_items after ≡ vec_items before ++ added
