-- The steps of an actor that show in what is kept.
use Rattle.std.specs.Prelude.{◌≡◌, ℕ, true, false, [], Option, Some, None}
use Rattle.pw_code.specs.declared.context.Context.{Context}
use Rattle.pw_code.specs.declared.system.System.{System}
use Rattle.pw_event.specs.declared.event.Event.{Event}
use Rattle.pw_event.specs.declared.event.Event.TheVariants as event
use Rattle.pw_world_state.specs.Kept.{Kept}
use Rattle.pw_world_state.specs.May.{IsThere, may}
use Rattle.pw_world_state.specs.Meeting.{IsStepRead}
use Rattle.pw_world_state.specs.NextSteps.{entry_at, next_step_at}
use Rattle.pw_world_state.specs.TerminalTests.{seat_at}
use Rattle.pw_pair.specs.Pairs.{passes}
use Rattle.pw_pair.specs.Seats.{is_waiting}
use Rattle.pw_world_state.specs.CauseTests.{may_restart, may_suspend}
use Rattle.pw_event.specs.declared.event.Cause.{Cause}
use Rattle.pw_actor_queue.specs.declared.actor.Actor.{Actor}
use Rattle.pw_actor_queue.specs.declared.actor.Actor.TheVariants.{Terminal}
use Rattle.pw_entry_tests.specs.Actors.{actor_in}

-- The entry is one of the actor, names what is there, speaks of programs that stand at their verbs, and passes its test.
-- FAIL entries are those of a script, and none of these.
pub record IsStepOf (system : System) (kept : Kept) (actor : Actor) (entry : Event) : Type 0 where
  pub own : actor_in system entry ≡ actor
  pub there : IsThere system entry
  pub read : IsStepRead system kept entry
  pub passes : may system [] kept entry ≡ true

-- an APPLIED whose message is not built
abbrev pub IsUnbuilt : System → Kept → Event → Type 0
IsUnbuilt system kept (event.Applied t) = passes is_waiting (seat_at system kept t) ≡ true
IsUnbuilt system kept _ = ⊥

-- A step of the actor, where it has one. One whose message is not built comes only where each of them is such.
abbrev pub IsStepFound : System → Kept → Actor → Option Event → Type 0
IsStepFound system kept actor None = (entry : Event) → IsStepOf system kept actor entry → ⊥
IsStepFound system kept actor (Some entry) =
    IsStepOf system kept actor entry
    × (IsUnbuilt system kept entry
    → (other : Event) → IsStepOf system kept actor other → IsUnbuilt system kept other)

-- this one is a step of the terminal, or there is none
abbrev pub IsFoundOr : System → Kept → ℕ → Type 0 → Option Event → Type 0
IsFoundOr system kept t none None = none
IsFoundOr system kept t none (Some entry) = IsStepOf system kept (Terminal t) entry

-- the entry of the next step of a terminal whose program stands so at its verb
abbrev pub next_entry_at : System → Kept → ℕ → Context → Option Event
next_entry_at system kept t context = entry_at system kept t context (next_step_at system kept t context)

-- neither RESTART nor END SUSPENDED
pub record HasNoCausedStep (system : System) (kept : Kept) (t : ℕ) : Type 0 where
  pub restart : (n : ℕ) (cause : Cause) → may_restart system kept t n cause ≡ false
  pub suspend : (cause : Cause) → may_suspend system kept t cause ≡ false
