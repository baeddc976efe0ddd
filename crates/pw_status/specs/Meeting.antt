-- What an entry meets, as the world tells it before the entry and behind it.
use Rattle.std.specs.Prelude.{ℕ, ◌&&◌, Bool, true, false, not, Option, Some, None}
use Rattle.pw_status.specs.Counts.{waiting}
use Rattle.pw_event.specs.declared.event.Event.{Event}
use Rattle.pw_event.specs.declared.event.Event.TheVariants.{FailTcp, Reply, Send}
use Rattle.pw_onecopy.specs.Path.{is_outside}
use Rattle.pw_pair.specs.declared.mode.Mode as pair
use Rattle.pw_pair.specs.declared.mode.Mode.TheVariants as mode
use Rattle.pw_paired.specs.Serial.{is_gone}
use Rattle.pw_paired.specs.State.{State}
use Rattle.pw_paired.specs.Terminal.{path_of}

-- the pair has no member left
abbrev pub is_lost : pair.Mode → Bool
is_lost mode.Gone = true
is_lost _ = false

-- the terminal of a REPLY
abbrev pub replied_terminal : Event → Option ℕ
replied_terminal (Reply c i t fault) = Some t
replied_terminal _ = None

-- before the entry: a REPLY is of a unit that is one SEND, and the pair of a FAIL TCP is not lost
abbrev pub may_end : State → Event → Bool
may_end state (Reply c i t fault) = is_outside (path_of state t)
may_end state (FailTcp p primary k) = not (is_gone (state.modes p))
may_end state _ = true

-- behind it: the pair of a FAIL TCP is lost
abbrev pub ends_then : State → Event → Bool → Bool
ends_then state (FailTcp p primary k) ends = ends && is_gone (state.modes p)
ends_then state _ ends = ends

-- behind it: so many wait for the class of a SEND
abbrev pub waits_then : State → Event → ℕ
waits_then state (Send t n c) = waiting state c
waits_then state _ = 0
