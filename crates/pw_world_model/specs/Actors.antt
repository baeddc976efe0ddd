-- Who the actors of a system are, and whose step an entry is.
pub use Rattle.pw_actor_queue.specs.Places.{is_same_actor}
use Rattle.std.specs.Prelude.{◌<◌, ◌≤◌, length, slice_get}
use Rattle.pw_code.specs.declared.system.System.{System}
use Rattle.pw_event.specs.declared.event.Event.{Event}
use Rattle.pw_code_meaning.specs.OfSystem.{processes_by}
use Rattle.pw_actor_queue.specs.declared.actor.Actor.{Actor}
use Rattle.pw_actor_queue.specs.declared.actor.Actor.TheVariants.{Terminal, Process, Pair, Class}
use Rattle.pw_onecopy.specs.Behaviour.{Behaviour}
use Rattle.pw_laws.specs.serial.Actors as serial

-- the actor is one of the system
abbrev pub IsActor : System → Actor → Type 0
IsActor system (Terminal t) = t < length system.terminals
IsActor system (Process c i) = (1 ≤ i) × (i ≤ processes_by (slice_get system.classes c))
IsActor system (Pair p) = p < length system.tcps
IsActor system (Class c) = c < length system.classes

-- an actor as the world names it
abbrev pub as_actor : serial.StepActor → Actor
as_actor (serial.Terminal t) = Terminal t
as_actor (serial.Process c i) = Process c i
as_actor (serial.Pair p) = Pair p
as_actor (serial.Class c) = Class c

-- whose step an entry is
abbrev pub actor_of : Behaviour → Event → Actor
actor_of sys entry = as_actor (serial.actor_of sys entry)
