-- The calls of a world between a claim and the answer to what came of it.
use Rattle.std.specs.Prelude.{◌≡◌, ◌⊎◌, Bool, List, [], ◌∷◌, None, Result}
use Rattle.pw_actor_queue.specs.declared.actor.Actor.{Actor}
use Rattle.pw_base.specs.declared.memory.Memory.{Memory}
use Rattle.pw_event.specs.declared.event.Event.{Event}
use Rattle.pw_pair.specs.SeenTask.{SeenDone}
use Rattle.pw_world_model.specs.Actors.{IsActor}
use Rattle.pw_world_model.specs.Answers.{AnswersApply, Claims, LeavesApplied, LeavesEntered}
use Rattle.pw_world_model.specs.Calls.{GivesBack}
use Rattle.pw_world_model.specs.Seen.{Seen, state_of, sys_of, work_of}
use Rattle.pw_world_model.specs.Stamps.{state_in}
use Rattle.pw_world_model.specs.Worlds.{Books, IsWorld}
use Rattle.pw_world_model.specs.declared.answers.Applied.{Applied}
use Rattle.pw_world_model.specs.declared.answers.Claim.{Claim}
use Rattle.pw_world_model.specs.declared.answers.Entered.{Entered}
use Rattle.pw_world_model.specs.declared.task.Outcome.{Outcome}
use Rattle.pw_world_model.specs.declared.task.Task.{Task}
use Rattle.pw_world_state.specs.Members.{members_of}

-- a world as its type keeps it, with some books
abbrev pub HasBooks : Seen → Type 0
HasBooks world = (books : Books) × IsWorld world books

-- `claim` was called: what it answered, and the world that it left
pub record IsClaim (world new : Seen) : Type 0 where
  pub answer : Result Claim Memory
  pub claims : Claims world answer new

-- `apply` was called with an outcome over the world's system: what it answered, and the world that it left
pub record IsApply (world new : Seen) : Type 0 where
  pub outcome : Outcome
  pub over : outcome.over.value ≡ world.system
  pub actor : IsActor world.system outcome.actor
  pub answer : Applied
  pub comes : AnswersApply world outcome answer
  pub leaves : LeavesApplied (members_of world.system) world outcome answer new

-- `give_back` was called: whether it filed an image, and the world that it left
pub record IsGiveBack (world new : Seen) : Type 0 where
  pub done : SeenDone
  pub filed : Bool
  pub gives : GivesBack world done filed new

-- each actor whose state is the same has the work that it had, or none
abbrev pub KeepsWork : Seen → Seen → Type 0
KeepsWork world new = (actor : Actor) → IsActor world.system actor
    → state_in (sys_of world) (state_of world) actor ≡ state_in (sys_of new) (state_of new) actor
    → (work_of new actor ≡ work_of world actor) ⊎ (work_of new actor ≡ None)

-- `enter` was called with an entry: what it answered, and the world that it left, whose programs have at most run on
pub record IsEnter (world new : Seen) : Type 0 where
  pub entry : Event
  pub answer : Entered
  pub leaves : LeavesEntered world entry answer new
  pub works : KeepsWork world new

-- one call that changes a world; `work` is an `apply` of the outcome that it made itself, and the others change none
abbrev pub IsWorldCall : Seen → Seen → Type 0
IsWorldCall world new = IsClaim world new ⊎ (IsApply world new ⊎ (IsGiveBack world new ⊎ IsEnter world new))

-- such calls, each in the world that the one before it left, lead through these worlds to the last one
abbrev pub AreCalls : Seen → List Seen → Seen → Type 0
AreCalls world [] last = last ≡ world
AreCalls world (next ∷ others) last = HasBooks next × (IsWorldCall world next × AreCalls next others last)

-- what `run_task` makes of a task has its actor, its stamp and its work
pub record IsOfTask (task : Task) (outcome : Outcome) : Type 0 where
  pub actor : outcome.actor ≡ task.actor
  pub stamp : outcome.stamp ≡ task.stamp
  pub given : outcome.given ≡ task.work
