-- A source in memory, and what a read of it does.
use Rattle.std.specs.Prelude.{ℕ, min, Bool, List, [], ◌∷◌, ◌++◌, length, take, drop, if◌then◌else◌}
use Rattle.pw_base.specs.Outside.{counted, is_listed}
use Rattle.pw_base.specs.declared.source.Got.{Got}
use Rattle.pw_base.specs.declared.source.Got.TheVariants as got

-- the bytes that are left, how many calls there were and how many of them failed, and the numbers of those that fail
pub record SourceState : Type 0 where
  pub left : List ℕ
  pub calls : ℕ
  pub faults : ℕ
  pub fail_at : List ℕ

-- whether the next read fails
abbrev pub read_fails : SourceState → Bool
read_fails source = is_listed source.fail_at source.calls

-- as many of the bytes as there is room for, or that none is left
abbrev pub bytes_given : List ℕ → ℕ → Got
bytes_given [] room = got.End
bytes_given (byte ∷ bytes) room = got.Got (min room (length (byte ∷ bytes)))

-- what a read into a buffer of this length answers
abbrev pub answer_of_read : SourceState → ℕ → Got
answer_of_read source room = if read_fails source then got.Failed else bytes_given source.left room

-- what a read into this buffer leaves there
abbrev pub buffer_after_read : SourceState → List ℕ → List ℕ
buffer_after_read source buffer = if read_fails source then buffer else take (length buffer) source.left ++ drop (length source.left) buffer

-- the source after a read into a buffer of this length
abbrev pub after_read : SourceState → ℕ → SourceState
after_read source room =
    if read_fails source then record source { calls = counted source.calls; faults = counted source.faults }
    else record source { calls = counted source.calls; left = drop room source.left }
