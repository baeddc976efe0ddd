-- The steps and tasks that are found of actors.
use Rattle.std.specs.Prelude.{◌≡◌, List, Option, Some, None, true}
use Rattle.std.specs.Option.{ForSome}
use Rattle.pw_event.specs.declared.event.Event.{Event}
use Rattle.pw_code_meaning.specs.Sound.{IsSoundContext}
use Rattle.pw_world_state.specs.Meeting.{IsStepRead}
use Rattle.pw_world_state.specs.Read.{IsReplyRead}
use Rattle.pw_world_model.specs.Actors.{IsActor}
use Rattle.pw_world_model.specs.Answers.{IsWorldIdle, HasOnlyUnbuiltSteps}
use Rattle.pw_world_model.specs.Enabled.{HasEnabledStep, IsEnabled, MayWork}
use Rattle.pw_world_model.specs.Seen.{Seen, sys_of, work_of}
use Rattle.pw_world_model.specs.Stamps.{IsStamp}
use Rattle.pw_world_model.specs.declared.task.Task.{Task}
use Rattle.pw_actor_queue.specs.Places as roster
use Rattle.pw_actor_queue.specs.Places.{is_placed, notes_in}
use Rattle.pw_actor_queue.specs.declared.actor.Actor.{Actor}
use Rattle.pw_actor_queue.specs.declared.roster.ActorNote.{ActorNote}
use Rattle.pw_entry_tests.specs.Steps as steps

-- An enabled step of the actor. What is to be read for it has been read; and it is an APPLIED whose message is not
-- built only where each step of the actor is such.
pub record IsFound (world : Seen) (actor : Actor) (entry : Event) : Type 0 where
  pub enabled : IsEnabled world actor entry
  pub read : IsStepRead world.system world.kept entry
  pub reply : IsReplyRead world.kept entry
  pub last : steps.IsUnbuilt world.system world.kept entry → HasOnlyUnbuiltSteps world actor

-- one is found exactly where there is one
abbrev pub FindsStep : Seen → Actor → Option Event → Type 0
FindsStep world actor None = ¬ HasEnabledStep world actor
FindsStep world actor (Some entry) = IsFound world actor entry

-- the task of an actor that may work, whose work is sound
pub record IsTaskOf (world : Seen) (actor : Actor) (task : Task) : Type 0 where
  pub known : IsActor world.system actor
  pub actor_is : task.actor ≡ actor
  pub may : MayWork world actor
  pub stamp : IsStamp (sys_of world) world.log actor task.stamp
  pub work : task.work ≡ work_of world actor
  pub sound : ForSome task.work (IsSoundContext world.system)

-- one is found exactly where the actor is one of the system and may work
abbrev pub FindsTask : Seen → Actor → Option Task → Type 0
FindsTask world actor None = IsActor world.system actor → ¬ MayWork world actor
FindsTask world actor (Some task) = IsTaskOf world actor task

-- an actor that is looked at for work and not out, or none where each that may work is out
abbrev pub IsNextOf : Seen → List ActorNote → Option Actor → Type 0
IsNextOf world notes None = IsWorldIdle world
IsNextOf world notes (Some actor) =
    (is_placed actor ≡ true) × (roster.is_waiting (notes_in notes actor) ≡ true)
