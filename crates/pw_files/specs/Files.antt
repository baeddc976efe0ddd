-- What a file is seen as, and what a change of it answers.
use Rattle.std.specs.Prelude.{ℕ, Bool, true, false, List, Result, Ok, Err}
use Rattle.pw_base.specs.declared.memory.Memory.{Memory}

-- the length of the keys, and the records in the order of their keys
pub record FileState : Type 0 where
  pub key : ℕ
  pub records : List (List ℕ)

-- the changed value exactly where the answer is true, and else the old one
abbrev pub if_done : {A : Type 0} → Result Bool Memory → A → A → A
if_done (Ok true) changed old = changed
if_done (Ok false) changed old = old
if_done (Err memory) changed old = old
