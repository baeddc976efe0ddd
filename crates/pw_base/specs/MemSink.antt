-- A sink in memory, and what a write to it does.
use Rattle.std.specs.Prelude.{ℕ, ◌-◌, min, nat_le, Bool, ◌||◌, List, ◌++◌, length, take, if◌then◌else◌}
use Rattle.pw_base.specs.Outside.{counted, is_listed}
use Rattle.pw_base.specs.declared.sink.Took.{Took}
use Rattle.pw_base.specs.declared.sink.Took.TheVariants as took

-- the bytes that were written, how many may be, the most that one write takes, how many calls there were and how
-- many of them failed, and the numbers of those that fail
pub record SinkState : Type 0 where
  pub written : List ℕ
  pub room : ℕ
  pub piece : ℕ
  pub calls : ℕ
  pub faults : ℕ
  pub fail_at : List ℕ

-- whether the next write fails: its number is listed, or no room is left
abbrev pub write_fails : SinkState → Bool
write_fails sink = is_listed sink.fail_at sink.calls || nat_le sink.room (length sink.written)

-- how many of the bytes offered a write takes
abbrev pub share : SinkState → ℕ → ℕ
share sink offered = min (min sink.piece offered) (sink.room - length sink.written)

-- what a write of this many bytes answers
abbrev pub answer_of_write : SinkState → ℕ → Took
answer_of_write sink offered = if write_fails sink then took.Failed else took.Took (share sink offered)

-- the sink after a write of these bytes
abbrev pub after_write : SinkState → List ℕ → SinkState
after_write sink bytes =
    if write_fails sink then record sink { calls = counted sink.calls; faults = counted sink.faults }
    else record sink { calls = counted sink.calls; written = sink.written ++ take (share sink (length bytes)) bytes }
