-- Whose step an entry is, in a system.
use Rattle.std.specs.Prelude.{◌<◌, ◌≤◌, length, slice_get}
use Rattle.pw_code.specs.declared.system.System.{System}
use Rattle.pw_event.specs.declared.event.Event.{Event}
use Rattle.pw_event.specs.declared.event.Event.TheVariants.{Show, Key, CheckStart, CheckEnd, CheckCopy, Applied, Begin, Send, Take, File, Reply, Again, Commit, Back, Restart, FailTcp, FailServer, Takeover, Raise, End}
use Rattle.pw_code_meaning.specs.OfSystem.{processes_by}
use Rattle.pw_world_state.specs.Entered.{tcp_of}
use Rattle.pw_actor_queue.specs.declared.actor.Actor.{Actor}
use Rattle.pw_actor_queue.specs.declared.actor.Actor.TheVariants.{Terminal, Process, Pair, Class}

-- FILE and REPLY are steps of a process, TAKE and FAIL SERVER of a class, CHECK COPY, APPLIED, RAISE, TAKEOVER and FAIL
-- TCP of a pair, and all others of a terminal
abbrev pub actor_in : System → Event → Actor
actor_in system (Show t phase attempt k) = Terminal t
actor_in system (Key t k) = Terminal t
actor_in system (CheckStart t) = Terminal t
actor_in system (CheckEnd t) = Terminal t
actor_in system (CheckCopy t) = Pair (tcp_of system t)
actor_in system (Applied t) = Pair (tcp_of system t)
actor_in system (Begin t n r) = Terminal t
actor_in system (Send t n c) = Terminal t
actor_in system (Take c i t) = Class c
actor_in system (File c i op mode f status) = Process c i
actor_in system (Reply c i t fault) = Process c i
actor_in system (Again t n) = Terminal t
actor_in system (Commit t n) = Terminal t
actor_in system (Back t n) = Terminal t
actor_in system (Restart t n cause) = Terminal t
actor_in system (FailTcp p primary k) = Pair p
actor_in system (FailServer c i k) = Class c
actor_in system (Takeover p) = Pair p
actor_in system (Raise p) = Pair p
actor_in system (End t ending) = Terminal t

-- the actor is one of the system
abbrev pub IsActorIn : System → Actor → Type 0
IsActorIn system (Terminal t) = t < length system.terminals
IsActorIn system (Process c i) = (1 ≤ i) × (i ≤ processes_by (slice_get system.classes c))
IsActorIn system (Pair p) = p < length system.tcps
IsActorIn system (Class c) = c < length system.classes
