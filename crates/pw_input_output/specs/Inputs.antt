-- The input of a call, and why there is none.
use Rattle.std.specs.Prelude.{◌≡◌, ℕ, List, length, nat_lt, Option, None, Some, IfSome, if◌then◌else◌}
use Rattle.pw_base.specs.Limits.{longest_input}
use Rattle.pw_base.specs.Outside.{Rose}
use Rattle.pw_input_output.specs.declared.status.Status.{Status}
use Rattle.pw_input_output.specs.declared.status.Status.TheVariants.{Memory, ReadFault}

-- bytes as an input, or none where they are more than the longest one has
abbrev pub input_of : List ℕ → Option (List ℕ)
input_of bytes = if nat_lt longest_input (length bytes) then None else Some bytes

-- the input is that of the bytes that the source had left, where it tells them
pub record IsInput (left : Option (List ℕ)) (input : Option (List ℕ)) : Type 0 where
  pub bytes : List ℕ
  pub read : IfSome left (λ had. had ≡ bytes)
  pub is : input ≡ input_of bytes

-- why a reading gives up: the source failed, or memory ran out with the source's count of faults as it was
abbrev pub GivesUp : Status → ℕ → ℕ → Type 0
GivesUp ReadFault before now = Rose before now
GivesUp Memory before now = now ≡ before
GivesUp _ before now = ⊥
