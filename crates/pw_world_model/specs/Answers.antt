-- What the calls of a world answer, and what they leave.
use Rattle.std.specs.Prelude.{◌≡◌, ◌≢◌, ◌⊎◌, ℕ, List, [], ◌∷◌, ◌++◌, Bool, true, false, Option, Some, None, length, if◌then◌else◌, Result, Ok, Err}
use Rattle.pw_base.specs.Outside.{Rose}
use Rattle.pw_base.specs.declared.memory.Memory.{Memory}
use Rattle.pw_code.specs.declared.context.Context.{Context}
use Rattle.pw_event.specs.declared.event.Event.{Event}
use Rattle.pw_event.specs.declared.event.Event.TheVariants as event
use Rattle.pw_world_state.specs.Changes.{kept_ran, with_job}
use Rattle.pw_world_state.specs.Entered.{entered}
use Rattle.pw_world_state.specs.Kept.{Kept}
use Rattle.pw_world_state.specs.TerminalTests.{seat_at}
use Rattle.pw_world_model.specs.Actors.{IsActor, is_same_actor}
use Rattle.pw_world_model.specs.Enabled.{HasEnabledStep, IsEnabled, MayWork}
use Rattle.pw_world_model.specs.Seen.{Seen, finished, state_of, sys_of, work_of}
use Rattle.pw_world_model.specs.Stamps.{IsStamp}
use Rattle.pw_world_model.specs.declared.answers.Applied.{Applied}
use Rattle.pw_world_model.specs.declared.answers.Applied.TheVariants as applied
use Rattle.pw_world_model.specs.declared.answers.Claim.{Claim}
use Rattle.pw_world_model.specs.declared.answers.Claim.TheVariants as claim
use Rattle.pw_world_model.specs.declared.answers.Entered as answer
use Rattle.pw_world_model.specs.declared.answers.Entered.TheVariants as enter
use Rattle.pw_actor_queue.specs.declared.actor.Actor.{Actor}
use Rattle.pw_actor_queue.specs.declared.actor.Actor.TheVariants.{Terminal, Process, Pair}
use Rattle.pw_world_model.specs.declared.task.Outcome.{Outcome}
use Rattle.pw_world_model.specs.declared.task.Task.{Task}
use Rattle.pw_pair.specs.Pairs.{passes}
use Rattle.pw_pair.specs.Seats.{is_built, is_waiting}
use Rattle.pw_paired.specs.Step.{Legal}

-- ---- claim

-- the actor is out from now on, or no more
abbrev pub with_out : Actor → Bool → Seen → Seen
with_out actor out world =
    record world { out = λ other. if is_same_actor other actor then out else world.out other }

-- the task of an actor that is not out and may work
pub record IsWork (world : Seen) (task : Task) : Type 0 where
  pub actor : IsActor world.system task.actor
  pub inside : world.out task.actor ≡ false
  pub may : MayWork world task.actor
  pub stamp : IsStamp (sys_of world) world.log task.actor task.stamp
  pub work : task.work ≡ work_of world task.actor

-- the log is not finished, and each actor that may work is out; there is one that may
pub record IsWorldIdle (world : Seen) : Type 0 where
  pub unfinished : finished world ≡ false
  pub each : (actor : Actor) → IsActor world.system actor → MayWork world actor → world.out actor ≡ true
  pub one : (actor : Actor) × (IsActor world.system actor × MayWork world actor)

-- what `claim` answers, and the world that it leaves
abbrev pub Claims : Seen → Result Claim Memory → Seen → Type 0
Claims world (Ok (claim.Work task)) new =
    (finished world ≡ false) × (IsWork world task × (new ≡ with_out task.actor true world))
Claims world (Ok claim.Idle) new = IsWorldIdle world × (new ≡ world)
Claims world (Ok claim.Finished) new = (finished world ≡ true) × (new ≡ world)
Claims world (Err memory) new = new ≡ world

-- ---- apply

-- the log has as many entries as it may, and is not finished
abbrev pub IsFull : Seen → Type 0
IsFull world = (length world.log ≡ world.limit) × (finished world ≡ false)

-- the outcome has its actor's stamp
abbrev pub HasFreshStamp : Seen → Outcome → Type 0
HasFreshStamp world outcome = IsStamp (sys_of world) world.log outcome.actor outcome.stamp

-- the actor's kept context stands at an answer, and the outcome was given none or another one
pub record IsUnrun (world : Seen) (outcome : Outcome) : Type 0 where
  pub context : Context
  pub work : work_of world outcome.actor ≡ Some context
  pub other : outcome.given ≢ Some context

-- the actor is a pair with a step, and each of its steps is an APPLIED whose message is not built
pub record HasOnlyUnbuiltSteps (world : Seen) (actor : Actor) : Type 0 where
  pub step : HasEnabledStep world actor
  pub p : ℕ
  pub pair : actor ≡ Pair p
  pub each : (entry : Event) → IsEnabled world actor entry
      → (t : ℕ) × ((entry ≡ event.Applied t)
      × (passes is_waiting (seat_at world.system world.kept t) ≡ true))

-- the kept context of the actor is this one, at its verb
abbrev pub run_on : Actor → Option Context → Kept → Kept
run_on (Terminal t) (Some work) kept = kept_ran t work kept
run_on (Process c i) (Some work) kept = with_job c i (Some work) kept
run_on actor work kept = kept

-- where the kept context stood at an answer it stands at the outcome's verb now
abbrev pub ran_from : Option Context → Outcome → Kept → Kept
ran_from None outcome kept = kept
ran_from (Some given) outcome kept = run_on outcome.actor outcome.work kept

-- the world in which the actor's context has run on as the outcome says
abbrev pub ran : Seen → Outcome → Seen
ran world outcome =
    record world { kept = ran_from (work_of world outcome.actor) outcome world.kept }

-- the outcome passes: no fault was answered, there is room, the stamps agree, and the outcome is one of the context
-- that is kept
pub record IsAccepted (world : Seen) (outcome : Outcome) : Type 0 where
  pub sound : world.failed ≡ false
  pub room : ¬ IsFull world
  pub fresh : HasFreshStamp world outcome
  pub run : ¬ IsUnrun world outcome

-- why `apply` answers so, each yielding to those before it: Limit, Stale, Unrun, Held, Unbuilt, DiscFault; want of
-- memory may come at any time, but after a fault of the disc that alone is answered
abbrev pub AnswersApply : Seen → Outcome → Applied → Type 0
AnswersApply world outcome applied.Done =
    IsAccepted world outcome × (HasEnabledStep (ran world outcome) outcome.actor × (¬ HasOnlyUnbuiltSteps (ran world outcome) outcome.actor))
AnswersApply world outcome applied.Limit = (world.failed ≡ false) × IsFull world
AnswersApply world outcome (applied.Stale carried found) =
    (world.failed ≡ false) × ((¬ IsFull world) × ((carried ≡ outcome.stamp)
    × (IsStamp (sys_of world) world.log outcome.actor found × (carried ≢ found))))
AnswersApply world outcome applied.Unrun =
    (world.failed ≡ false) × ((¬ IsFull world) × (HasFreshStamp world outcome × IsUnrun world outcome))
AnswersApply world outcome applied.Held =
    IsAccepted world outcome × (¬ HasEnabledStep (ran world outcome) outcome.actor)
AnswersApply world outcome applied.Unbuilt =
    IsAccepted world outcome × HasOnlyUnbuiltSteps (ran world outcome) outcome.actor
AnswersApply world outcome applied.DiscFault =
    (world.failed ≡ true)
    ⊎ (IsAccepted world outcome × (HasEnabledStep (ran world outcome) outcome.actor × (¬ HasOnlyUnbuiltSteps (ran world outcome) outcome.actor)))
AnswersApply world outcome applied.Memory = world.failed ≡ false

-- a message that is taken in is built: no image is built here
abbrev pub IsBuilt : Seen → Event → Type 0
IsBuilt world (event.Applied t) = passes is_built (seat_at world.system world.kept t) ≡ true
IsBuilt world _ = Unit {0}

-- one more entry, a step of the actor, and what is kept follows it; the lists have the terminals of each pair
pub record Pushes (members : ℕ → List ℕ) (world new : Seen) (actor : Actor) (entry : Event) : Type 0 where
  pub enabled : IsEnabled world actor entry
  pub built : IsBuilt world entry
  pub is : new ≡ record world {
    log = world.log ++ entry ∷ [];
    kept = entered world.system members entry world.kept;
  }

-- a fault was answered, and the disc's count has risen since `new`; all else stays
pub record FailsOnly (world new : Seen) : Type 0 where
  pub rose : Rose world.faults new.kept.disc.faults
  pub rest : new ≡ record world {
    failed = true;
    kept = record world.kept { disc = record world.kept.disc { faults = new.kept.disc.faults } };
  }

-- what an answer but Done leaves: log, script, limit and what is kept stay, but that a Held has run its actor's context
-- on, and that the disc's count may rise
abbrev pub LeavesApplied : (ℕ → List ℕ) → Seen → Outcome → Applied → Seen → Type 0
LeavesApplied members world outcome applied.Done new =
    (entry : Event) × Pushes members (with_out outcome.actor false (ran world outcome)) new outcome.actor entry
LeavesApplied members world outcome applied.Held new = new ≡ with_out outcome.actor false (ran world outcome)
LeavesApplied members world outcome applied.DiscFault new = FailsOnly (with_out outcome.actor false world) new
LeavesApplied members world outcome _ new = new ≡ with_out outcome.actor false world

-- ---- enter

-- why `enter` answers so: a fault of the disc comes before the step, and after one it answers that alone
abbrev pub EnterComes : Seen → Event → answer.Entered → Type 0
EnterComes world entry enter.Done = (world.failed ≡ false) × Legal (sys_of world) (state_of world) entry
EnterComes world entry enter.NotAStep = (world.failed ≡ false) × (¬ Legal (sys_of world) (state_of world) entry)
EnterComes world entry enter.DiscFault = Unit {0}
EnterComes world entry enter.Memory = world.failed ≡ false

-- system, script, limit, who is out, and the disc's count at `new` are the same
pub record IsSameWorld (world new : Seen) : Type 0 where
  pub system : new.system ≡ world.system
  pub script : new.script ≡ world.script
  pub limit : new.limit ≡ world.limit
  pub out : (actor : Actor) → new.out actor ≡ world.out actor
  pub faults : new.faults ≡ world.faults

-- a fault was answered, and the disc's count has risen since `new`
abbrev pub HasFailed : Seen → Type 0
HasFailed world = (world.failed ≡ true) × Rose world.faults world.kept.disc.faults

-- what `enter` leaves: it may run programs on, so that what is kept stands for the same state as before
abbrev pub LeavesEntered : Seen → Event → answer.Entered → Seen → Type 0
LeavesEntered world entry enter.Done new =
    IsSameWorld world new × ((new.log ≡ world.log ++ entry ∷ []) × (new.failed ≡ world.failed))
LeavesEntered world entry enter.DiscFault new =
    IsSameWorld world new × ((new.log ≡ world.log) × HasFailed new)
LeavesEntered world entry _ new =
    IsSameWorld world new × ((new.log ≡ world.log) × (new.failed ≡ world.failed))
