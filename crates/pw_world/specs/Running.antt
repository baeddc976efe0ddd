-- The kept context of an actor runs on to its next verb.
use Rattle.std.specs.Prelude.{◌≡◌, ◌⊎◌, ℕ, ◌<◌, IsSome, Some, None, length}
use Rattle.pw_class.specs.Queue.{at_process}
use Rattle.pw_class.specs.declared.request.Request.{Request}
use Rattle.pw_code.specs.declared.context.Context.{Context}
use Rattle.pw_code.specs.declared.system.System.{System}
use Rattle.pw_code.specs.declared.verb.Verb.{Verb}
use Rattle.pw_code_meaning.specs.Contexts.{RunsOn}
use Rattle.pw_world_state.specs.Kept.{Kept}
use Rattle.pw_world_state.specs.Read.{IsServerRead}
use Rattle.pw_world_model.specs.Answers.{run_on}
use Rattle.pw_world_model.specs.Seen.{Seen, work_of}
use Rattle.pw_actor_queue.specs.declared.actor.Actor.{Actor}
use Rattle.pw_actor_queue.specs.declared.actor.Actor.TheVariants.{Terminal, Process, Pair, Class}

-- ---- one actor

-- the actor has a program: it is a terminal of the system, or a busy process
abbrev pub HasProgram : System → Kept → Actor → Type 0
HasProgram system kept (Terminal t) = t < length system.terminals
HasProgram system kept (Process c i) =
    (c < length system.classes) × IsSome (at_process (kept.queues c) i)
HasProgram system kept (Pair p) = ⊥
HasProgram system kept (Class c) = ⊥

-- the actor's kept context stands at an answer, and runs on to this verb and context
pub record RunsTo (world : Seen) (actor : Actor) (verb : Verb) (work : Context) : Type 0 where
  pub given : Context
  pub is : work_of world actor ≡ Some given
  pub runs : RunsOn world.system given work verb

-- it has run on to this context
abbrev pub ran_to : Actor → Context → Seen → Seen
ran_to actor work world = record world { kept = run_on actor (Some work) world.kept }

-- ---- some actors

-- Programs have run on to their next verbs: nothing but contexts of terminals and processes has
-- changed, whoever stood at a verb still does, and each actor has the work that it had, or none.
pub record HasRunOn (world new : Seen) : Type 0 where
  pub rest : new ≡ record world { kept = new.kept }
  pub contexts : new.kept ≡ record world.kept { terminals = new.kept.terminals; jobs = new.kept.jobs }
  pub stay : (actor : Actor) → work_of world actor ≡ None → work_of new actor ≡ None
  pub works : (actor : Actor)
      → (work_of new actor ≡ work_of world actor) ⊎ (work_of new actor ≡ None)

-- the server that works for a terminal, if one does, stands at its verb
abbrev pub IsWorkRead : System → Kept → ℕ → Type 0
IsWorkRead system kept t =
    (c i : ℕ) (request : Request) → c < length system.classes
    → at_process (kept.queues c) i ≡ Some request → request.terminal ≡ t → IsServerRead kept c i
