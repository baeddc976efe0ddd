-- The steps that a world may make now. Every step is one, but a step with the cause OLDER only once the context of a
-- process on whose next file operation the cause rests stands at its verb.
use Rattle.std.specs.Prelude.{◌≡◌, ◌⊎◌, Some}
use Rattle.pw_code.specs.declared.context.Context.{Context}
use Rattle.pw_event.specs.declared.event.Event.{Event}
use Rattle.pw_world_state.specs.Meeting.{StepShows}
use Rattle.pw_world_model.specs.Actors.{actor_of}
use Rattle.pw_world_model.specs.Seen.{Seen, state_of, sys_of, work_of}
use Rattle.pw_actor_queue.specs.declared.actor.Actor.{Actor}
use Rattle.pw_paired.specs.Step.{Legal}

-- an enabled step of the actor
pub record IsEnabled (world : Seen) (actor : Actor) (entry : Event) : Type 0 where
  pub legal : Legal (sys_of world) (state_of world) entry
  pub at_verb : StepShows (sys_of world) (state_of world) world.kept entry
  pub own : actor_of (sys_of world) entry ≡ actor

-- the actor has an enabled step
abbrev pub HasEnabledStep : Seen → Actor → Type 0
HasEnabledStep world actor = (entry : Event) × IsEnabled world actor entry

-- the actor's kept context stands at an answer, so that its verb is not known yet
abbrev pub IsUnread : Seen → Actor → Type 0
IsUnread world actor = (context : Context) × (work_of world actor ≡ Some context)

-- the actor has an enabled step, or its verb is not known yet
abbrev pub MayWork : Seen → Actor → Type 0
MayWork world actor = HasEnabledStep world actor ⊎ IsUnread world actor
