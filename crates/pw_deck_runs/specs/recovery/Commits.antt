-- The units of a log that commit.
use Rattle.std.specs.Prelude.{ℕ, Bool, true, false, List, count_by}
use Rattle.pw_event.specs.declared.event.Event.{Event}
use Rattle.pw_onecopy.specs.Behaviour.{Behaviour}
use Rattle.pw_onecopy.specs.Blocks.{SerialBlock, Attempted, Committed}
use Rattle.pw_paired.specs.Serial.{blocks}

-- the block is one of a unit that commits
abbrev pub is_commit : SerialBlock → Bool
is_commit (Attempted t n Committed j) = true
is_commit _ = false

-- how many such blocks the serial order of a log has
abbrev pub commits : Behaviour → List Event → ℕ
commits sys log = count_by is_commit (blocks sys log)
