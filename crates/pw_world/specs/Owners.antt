-- Whom the entries of an actor belong to, and the FAIL entry of a failure line.
use Rattle.std.specs.Prelude.{ℕ, ◌-◌, ◌==◌, List, Option, Some, None, slice_get, if◌then◌else◌}
use Rattle.pw_code.specs.declared.system.System.{System}
use Rattle.pw_event.specs.declared.event.Event.{Event}
use Rattle.pw_event.specs.declared.event.Event.TheVariants.{FailTcp, FailServer}
use Rattle.pw_event.specs.declared.script.FailLine.{FailLine}
use Rattle.pw_event.specs.declared.script.FailLine.TheVariants as line
use Rattle.pw_event.specs.declared.script.Owner.{Owner}
use Rattle.pw_event.specs.declared.script.Owner.TheVariants as owner
use Rattle.pw_world_state.specs.Entered.{tcp_of}
use Rattle.pw_actor_queue.specs.declared.actor.Actor.{Actor}
use Rattle.pw_actor_queue.specs.declared.actor.Actor.TheVariants.{Terminal, Process, Pair, Class}

-- those of a terminal to its pair, and those of a process to its class
abbrev pub owner_in : System → Actor → Owner
owner_in system (Terminal t) = owner.Tcp (tcp_of system t)
owner_in system (Process c i) = owner.Class c
owner_in system (Pair p) = owner.Tcp p
owner_in system (Class c) = owner.Class c

-- the FAIL entry of a line of this number, where it is a step of the actor: the pair or class of the line makes it
abbrev pub fail_entry : ℕ → Option FailLine → Actor → Option Event
fail_entry number (Some (line.Tcp p primary after)) (Pair q) =
    if p == q then Some (FailTcp p primary number) else None
fail_entry number (Some (line.Server c i after)) (Class d) =
    if c == d then Some (FailServer c i number) else None
fail_entry number _ actor = None
