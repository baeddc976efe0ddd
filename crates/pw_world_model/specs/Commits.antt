-- How many units commit in a log, entry by entry.
use Rattle.std.specs.Prelude.{ℕ, ◌+◌, List, [], ◌∷◌, if◌then◌else◌}
use Rattle.pw_event.specs.declared.event.Event.{Event}
use Rattle.pw_laws.specs.locking.Records.{commits_at}
use Rattle.pw_onecopy.specs.Behaviour.{Behaviour}
use Rattle.pw_paired.specs.State.{State, starting}
use Rattle.pw_paired.specs.Step.{effect}

-- one where the entry commits a unit, in the state before it
abbrev pub commits_by : State → Event → ℕ
commits_by state entry = if commits_at state entry then 1 else 0

-- how many entries of a log commit a unit, from a state on
abbrev pub commits_from : Behaviour → State → List Event → ℕ
commits_from sys state [] = 0
commits_from sys state (entry ∷ log) = commits_by state entry + commits_from sys (effect sys state entry) log

-- how many entries of a log do
abbrev pub commits_in : Behaviour → List Event → ℕ
commits_in sys log = commits_from sys (starting sys) log
