-- Which outcomes pass.
use Rattle.std.specs.Prelude.{◌≡◌, ℕ, List, Option, Some, None, false}
use Rattle.pw_code.specs.declared.context.Context.{Context}
use Rattle.pw_world_model.specs.Answers.{AnswersApply, IsAccepted, LeavesApplied, with_out}
use Rattle.pw_world_model.specs.Seen.{Seen, work_of}
use Rattle.pw_world_model.specs.declared.answers.Applied.{Applied}
use Rattle.pw_world_model.specs.declared.task.Outcome.{Outcome}

-- the answer comes to the outcome, and leaves all but that its actor is no more out
pub record IsRefusal (world : Seen) (outcome : Outcome) (answer : Applied) : Type 0 where
  pub comes : AnswersApply world outcome answer
  pub stays : (members : ℕ → List ℕ)
      → LeavesApplied members world outcome answer (with_out outcome.actor false world)

-- the outcome was given the work of its actor, if there is any
abbrev pub IsOfWork : Seen → Outcome → Type 0
IsOfWork world outcome =
    (context : Context) → work_of world outcome.actor ≡ Some context → outcome.given ≡ Some context

-- an outcome passes: it is not refused, and it is of the actor's work
pub record PassesJudging (world : Seen) (outcome : Outcome) : Type 0 where
  pub accepted : IsAccepted world outcome
  pub work : IsOfWork world outcome

-- an outcome is refused with an answer, or passes
abbrev pub Judges : Seen → Outcome → Option Applied → Type 0
Judges world outcome None = PassesJudging world outcome
Judges world outcome (Some answer) = IsRefusal world outcome answer
