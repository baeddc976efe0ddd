-- Which entries change the committed records.
use Rattle.std.specs.Prelude.{Bool, true, false, None}
use Rattle.pw_event.specs.declared.event.Event.{Event}
use Rattle.pw_event.specs.declared.event.Event.TheVariants.{Commit, Reply}
use Rattle.pw_onecopy.specs.Path.{is_outside}
use Rattle.pw_paired.specs.State.{State}
use Rattle.pw_paired.specs.Terminal.{path_of}

-- the entry commits a unit: it is a COMMIT, or the REPLY OK of a unit that is one SEND
abbrev pub commits_at : State → Event → Bool
commits_at state (Commit t n) = true
commits_at state (Reply c i t None) = is_outside (path_of state t)
commits_at state _ = false
