-- What `work` answers, and the world that it leaves: one task, from its claim to what its outcome comes to, in one call.
use Rattle.std.specs.Prelude.{◌≡◌, ℕ, List, true, false}
use Rattle.pw_world_model.specs.Answers.{AnswersApply, IsFull, IsWork, IsWorldIdle, LeavesApplied}
use Rattle.pw_world_model.specs.Between.{IsOfTask}
use Rattle.pw_world_model.specs.Seen.{Seen, finished}
use Rattle.pw_world_model.specs.declared.answers.Applied.{Applied}
use Rattle.pw_world_model.specs.declared.answers.Worked.{Worked}
use Rattle.pw_world_model.specs.declared.answers.Worked.TheVariants as worked
use Rattle.pw_world_model.specs.declared.task.Outcome.{Outcome}
use Rattle.pw_world_model.specs.declared.task.Task.{Task}

-- the task of an actor that is not out and may work, what it ran on to over the world's system, and what `apply` answers
-- to that and leaves
pub record WorksOn (members : ℕ → List ℕ) (world : Seen) (answer : Applied) (new : Seen) : Type 0 where
  pub task : Task
  pub claimed : IsWork world task
  pub outcome : Outcome
  pub of : IsOfTask task outcome
  pub over : outcome.over.value ≡ world.system
  pub comes : AnswersApply world outcome answer
  pub leaves : LeavesApplied members world outcome answer new

-- what `work` answers, and the world that it leaves: every answer but that of a task leaves it as it was
abbrev pub Works : (ℕ → List ℕ) → Seen → Worked → Seen → Type 0
Works members world (worked.Applied answer) new = (finished world ≡ false) × WorksOn members world answer new
Works members world worked.Idle new = IsWorldIdle world × (new ≡ world)
Works members world worked.Finished new = (finished world ≡ true) × (new ≡ world)
Works members world worked.Limit new = (world.failed ≡ false) × (IsFull world × (new ≡ world))
Works members world worked.DiscFault new = (world.failed ≡ true) × (new ≡ world)
Works members world worked.Memory new = new ≡ world
