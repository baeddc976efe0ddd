-- What the tests of entries take of what is kept. It holds in every run.
use Rattle.std.specs.Prelude.{◌≡◌, ℕ, ◌<◌, true, length, All, Option, Some, None, if◌then◌else◌}
use Rattle.std.specs.Option.{ForSome}
use Rattle.pw_class.specs.Queue.{at_process}
use Rattle.pw_class.specs.declared.request.Request.{Request}
use Rattle.pw_code.specs.Valid.{IsValid}
use Rattle.pw_code.specs.declared.context.Context.{Context}
use Rattle.pw_code.specs.declared.file.FileCall.{FileCall}
use Rattle.pw_code.specs.declared.system.System.{System}
use Rattle.pw_code.specs.declared.verb.Verb.TheVariants as verb
use Rattle.pw_world_state.specs.Asked.{verb_in}
use Rattle.pw_world_state.specs.Changes.{unit_at}
use Rattle.pw_world_state.specs.Kept.{Kept}
use Rattle.pw_world_state.specs.NextSteps.{MayStepAt, standing}
use Rattle.pw_world_state.specs.TerminalTests.{can_step}
use Rattle.pw_world_store.specs.declared.seat.Ready.{Ready}
use Rattle.pw_actor_queue.specs.declared.actor.Actor.{Actor}
use Rattle.pw_actor_queue.specs.declared.actor.Actor.TheVariants.{Terminal}
use Rattle.pw_paired.specs.State.{Awaited}
use Rattle.pw_tmf.specs.Operation.{IsCall}
use Rattle.pw_tmf.specs.Told.{ToldUnit}
use Rattle.pw_tmf.specs.Units.{IsOpen, IsRunning}

-- a context counts less than a million
pub record IsFewCounted (context : Context) : Type 0 where
  pub shown : context.shown < 1000000
  pub entries : context.entries < 1000000
  pub units : context.units < 1000000

-- The system is valid, and the disc has its terminals and its rule. Open and awaited units are
-- those of started terminals, and locks are those of open units. A busy process works for a unit of which an attempt
-- runs, and what it asks of a file may be asked of the disc. No context counts too much.
pub record IsKnown (system : System) (kept : Kept) : Type 0 where
  pub valid : IsValid system
  pub sizes : kept.disc.terminals ≡ length system.terminals
  pub rule : kept.disc.rule ≡ system.rule
  pub started : (t : ℕ) (own : ToldUnit) → kept.disc.units t ≡ Some own → t < length system.terminals
  pub awaits : (t : ℕ) (awaited : Awaited) → (kept.terminals t).awaits ≡ Some awaited
      → awaited.terminal < length system.terminals
  pub locks : All (λ held. IsOpen kept.disc held.unit) kept.disc.locks
  pub works : (c i : ℕ) (request : Request) → at_process (kept.queues c) i ≡ Some request
      → IsRunning kept.disc (unit_at kept request.terminal request.unit)
  pub calls : (c i : ℕ) (context : Context) (call : FileCall) → kept.jobs c i ≡ Some context
      → context.at_verb ≡ true → verb_in system context ≡ verb.File call → IsCall kept.disc call
  pub counts : (t : ℕ) (context : Context) → (kept.terminals t).ready ≡ Some context → IsFewCounted context

-- the program of a terminal at its verb, where the terminal can step
abbrev pub stepping : System → Kept → ℕ → Option Context
stepping system kept t = if can_step system kept t then (kept.terminals t).ready else None

-- what the next step of a terminal takes of what is kept, where its program stands at its verb; it holds in every run
abbrev pub IsNextKnown : System → Kept → Actor → Type 0
IsNextKnown system kept (Terminal t) = ForSome (standing system kept t) (MayStepAt system kept t)
IsNextKnown system kept _ = Unit {0}

-- the terminal is live, its pair has a member at work, and its program stands so at this verb
pub record StandsThere (system : System) (kept : Kept) (t : ℕ) (at : Ready) : Type 0 where
  pub stands : standing system kept t ≡ Some at.context
  pub verb : at.verb ≡ verb_in system at.context
  pub counts : IsFewCounted at.context
