-- Steps one after another.
use Rattle.std.specs.Prelude.{Result, Ok, Err}

-- behind a step that gave a value goes on the next one, with that; the first fault stays
infixl 10 ◌>>=◌
abbrev pub ◌>>=◌ : {A B F : Type 0} → Result A F → (A → Result B F) → Result B F
(Err fault) >>= next = Err fault
(Ok value) >>= next = next value
