-- What it is to read a source to its end.
use Rattle.std.specs.Prelude.{◌≡◌, ℕ, ◌≤◌, ◌<◌, List, [], ◌∷◌, length, Option, Result, Ok, Err}
use Rattle.std.specs.Io.KnownBytes.{Consumes, IsAtEnd}
use Rattle.pw_base.specs.Limits.{longest_input}
use Rattle.pw_base.specs.Outside.{Rose}
use Rattle.pw_base.specs.declared.source.Got.{Got}
use Rattle.pw_base.specs.declared.source.Got.TheVariants as got
use Rattle.pw_base.specs.declared.read_all.ReadFault.{ReadFault}
use Rattle.pw_base.specs.declared.read_all.ReadFault.TheVariants.{Fault, TooLong, Memory}

-- What was taken of the source, by the outcome: at Ok it is all, and at most the longest input;
-- a failure came before more than that, and an input that is too long is longer.
abbrev pub HasRead : Result (List ℕ) ReadFault → List ℕ → Option (List ℕ) → Type 0
HasRead (Ok bytes) taken now = (bytes ≡ taken) × (length taken ≤ longest_input) × IsAtEnd now
HasRead (Err Fault) taken now = length taken ≤ longest_input
HasRead (Err TooLong) taken now = longest_input < length taken
HasRead (Err Memory) taken now = Unit {0}

-- a reading to the end took bytes of those that were left, where they are told
abbrev pub ReadsAll : Result (List ℕ) ReadFault → Option (List ℕ) → Option (List ℕ) → Type 0
ReadsAll result before now = (taken : List ℕ) × Consumes before now taken × HasRead result taken now

-- how the count of faults goes on: it rises at a fault, and else it stays
abbrev pub CountsReadAll : Result (List ℕ) ReadFault → ℕ → ℕ → Type 0
CountsReadAll (Ok bytes) before now = now ≡ before
CountsReadAll (Err Fault) before now = Rose before now
CountsReadAll (Err TooLong) before now = now ≡ before
CountsReadAll (Err Memory) before now = now ≡ before

-- a read that gave some bytes: how many, and the source behind it
pub record Gave (S : Type 0) : Type 0 where
  pub count : ℕ
  pub then : S

-- reads that each gave some bytes lead from one source to another
abbrev pub Lead : {S : Type 0} → (S → Got → S → Type 0) → S → List (Gave S) → S → Type 0
Lead step from [] to = from ≡ to
Lead step from (gave ∷ more) to = step from (got.Got gave.count) gave.then × Lead step gave.then more to

-- the last read of a reading to the end: it found the end, or failed; an input that is too long, and want of memory,
-- need none
abbrev pub Stops : {S : Type 0} → (S → Got → S → Type 0) → Result (List ℕ) ReadFault → S → S → Type 0
Stops step (Ok bytes) last now = step last got.End now
Stops step (Err Fault) last now = step last got.Failed now
Stops step (Err TooLong) last now = last ≡ now
Stops step (Err Memory) last now = last ≡ now

-- A reading to the end is reads that gave some bytes and at most one more, which stopped it: nothing is read behind
-- the end or behind a failure.
pub record StopsOnce {S : Type 0} (step : S → Got → S → Type 0) (result : Result (List ℕ) ReadFault) (from to : S) : Type 0 where
  pub gave : List (Gave S)
  pub last : S
  pub lead : Lead step from gave last
  pub stop : Stops step result last to
