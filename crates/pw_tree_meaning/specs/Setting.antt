-- In what a program runs.
use Rattle.std.specs.Prelude.{ℕ, Bool, List}
use Rattle.pw_tree_meaning.specs.Program.{DeckModel, Program}

-- The deck, the program, the number of its first screen, and whether it is a server; of a server
-- the message, and whether it runs by itself on plain files.
pub record Setting : Type 0 where
  pub deck : DeckModel
  pub program : Program
  pub first : ℕ
  pub is_server : Bool
  pub message : List ℕ
  pub alone : Bool
