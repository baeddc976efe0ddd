-- What contracts see of the work of building a message's image.
use Rattle.std.specs.Prelude.{ℕ, List, Option}
use Rattle.pw_pair.specs.declared.message.Carried.{Carried}

-- a task: a terminal, its message, and the start image that is held of it
pub record SeenTask : Type 0 where
  pub terminal : ℕ
  pub message : Carried
  pub held : Option (List ℕ)

-- a task that is done, with the whole image
pub record SeenDone : Type 0 where
  pub task : SeenTask
  pub image : List ℕ
