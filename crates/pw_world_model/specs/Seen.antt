-- What contracts see of a world.
use Rattle.std.specs.Prelude.{ℕ, List, Bool, Option, Some, None, if◌then◌else◌}
use Rattle.pw_code.specs.declared.context.Context.{Context}
use Rattle.pw_code.specs.declared.system.System.{System}
use Rattle.pw_event.specs.declared.event.Event.{Event}
use Rattle.pw_event.specs.declared.script.FailLine.{FailLine}
use Rattle.pw_code_meaning.specs.OfSystem.{behaviour}
use Rattle.pw_world_state.specs.Kept.{Kept, KeptTerminal}
use Rattle.pw_actor_queue.specs.declared.actor.Actor.{Actor}
use Rattle.pw_actor_queue.specs.declared.actor.Actor.TheVariants.{Terminal, Process, Pair, Class}
use Rattle.pw_onecopy.specs.Behaviour.{Behaviour}
use Rattle.pw_paired.specs.State.{State}
use Rattle.pw_paired.specs.Step.{after, is_finished}

-- what is seen of a world
pub record Seen : Type 0 where
  pub system : System
  pub script : List FailLine
  pub log : List Event
  -- how many entries the log may have
  pub limit : ℕ
  -- contexts, image bytes, books, and what the disc tells, with its count of faults
  pub kept : Kept
  -- the disc's count of faults when the world was made, and whether a fault was answered since
  pub faults : ℕ
  pub failed : Bool
  -- the actors that are out
  pub out : Actor → Bool

-- its behaviour, by its codes
abbrev pub sys_of : Seen → Behaviour
sys_of world = behaviour world.script world.system

-- the paired state after its log
abbrev pub state_of : Seen → State
state_of world = after (sys_of world) world.log

-- the log is finished
abbrev pub finished : Seen → Bool
finished world = is_finished (sys_of world) (state_of world)

-- ---- kept contexts

-- the first of two that is there
abbrev pub first_of : {A : Type 0} → Option A → Option A → Option A
first_of None other = other
first_of (Some one) other = Some one

-- the context that is kept of a terminal: at its verb, where it has run on to that
abbrev pub context_of : KeptTerminal → Option Context
context_of own = first_of own.ready own.context

-- the context that is kept for an actor: pairs and classes have none
abbrev pub kept_context : Kept → Actor → Option Context
kept_context kept (Terminal t) = context_of (kept.terminals t)
kept_context kept (Process c i) = kept.jobs c i
kept_context kept (Pair p) = None
kept_context kept (Class c) = None

-- a context, where it stands at an answer
abbrev pub at_answer : Option Context → Option Context
at_answer None = None
at_answer (Some context) = if context.at_verb then None else Some context

-- the work of an actor: its kept context, where that stands at an answer
abbrev pub work_of : Seen → Actor → Option Context
work_of world actor = at_answer (kept_context world.kept actor)
