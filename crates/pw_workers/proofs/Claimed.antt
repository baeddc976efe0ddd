-- What a world hands out can be run.
use Rattle.std.proofs.Common.{◌≡◌, Result, Ok, subst}
use Rattle.std.specs.Option.{ForSome}
use Rattle.pw_base.specs.declared.memory.Memory.{Memory}
use Rattle.pw_code.specs.declared.system.System.{System}
use Rattle.pw_code_meaning.specs.Sound.{IsSoundContext}
use Rattle.pw_world_model.specs.Answers.{Claims}
use Rattle.pw_world_model.specs.Seen.{Seen}
use Rattle.pw_world_model.specs.declared.answers.Claim.{Claim}
use Rattle.pw_world_model.specs.declared.answers.Claim.TheVariants as claim
use Rattle.pw_world_model.specs.declared.task.Task.{Task}
use Rattle.pw_workers.specs.Turns.{CanRun}

-- a task of a world of this system can be run
pub claimed : (system : System) (world new : Seen) (answer : Result Claim Memory) (task : Task)
    → answer ≡ Ok (claim.Work task) → Claims world answer new
    → ((t : Task) → answer ≡ Ok (claim.Work t) → ForSome t.work (IsSoundContext world.system))
    → world.system ≡ system → CanRun system task
claimed system world new answer task is claims sound same =
    let claims : Claims world (Ok (claim.Work task)) new = subst (λ a. Claims world a new) is claims in
    subst (λ s. CanRun s task) same (record { actor = claims.1.0.actor; sound = sound task is })
