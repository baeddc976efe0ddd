-- What `work` answers before anyone is looked for, and what a look at an actor comes to that is not out.
use Rattle.std.specs.Prelude.{◌≡◌, ℕ, List, Option, Some, None, false}
use Rattle.pw_actor_queue.specs.declared.actor.Actor.{Actor}
use Rattle.pw_world_model.specs.Actors.{IsActor}
use Rattle.pw_world_model.specs.Answers.{IsFull}
use Rattle.pw_world_model.specs.Enabled.{MayWork}
use Rattle.pw_world_model.specs.Seen.{Seen, finished}
use Rattle.pw_world_model.specs.Working.{Works, WorksOn}
use Rattle.pw_world_model.specs.declared.answers.Applied.{Applied}
use Rattle.pw_world_model.specs.declared.answers.Worked.{Worked}

-- an answer that leaves the world as it was, or none where the log goes on, no fault was answered and there is room
abbrev pub StopsWork : Seen → Option Worked → Type 0
StopsWork world None = (finished world ≡ false) × ((world.failed ≡ false) × (¬ IsFull world))
StopsWork world (Some answer) = (members : ℕ → List ℕ) → Works members world answer world

-- the answer to its task, and what that leaves, or none where it is no actor of the system or may not work
abbrev pub WorksFor : (ℕ → List ℕ) → Seen → Actor → Seen → Option Applied → Type 0
WorksFor members world actor new None = IsActor world.system actor → ¬ MayWork world actor
WorksFor members world actor new (Some answer) = WorksOn members world answer new
