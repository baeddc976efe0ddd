-- What a worker can do next.
use Rattle.std.specs.Prelude.{ℕ, ◌<◌, length, IsSome}
use Rattle.std.specs.Option.{ForSome}
use Rattle.pw_code.specs.declared.system.System.{System}
use Rattle.pw_code_meaning.specs.Sound.{IsSoundContext}
use Rattle.pw_world_model.specs.Actors.{IsActor}
use Rattle.pw_world_model.specs.declared.task.Task.{Task}
use Rattle.pw_workers.specs.declared.lane.LinkLane.{LinkLane}
use Rattle.pw_workers.specs.declared.turn.WorkerTurn.{WorkerTurn}
use Rattle.pw_workers.specs.declared.turn.WorkerTurn.TheVariants.{Build, Run, Wait, Stop}

-- a task that can be run: it is one of the system, and its work is sound
pub record CanRun (system : System) (task : Task) : Type 0 where
  pub actor : IsActor system task.actor
  pub sound : ForSome task.work (IsSoundContext system)

-- a lane on which a task waits, and the pair that it is of
pub record CanBuild (system : System) (tcp : ℕ) (lane : LinkLane) : Type 0 where
  pub pair : tcp < length system.tcps
  pub waits : IsSome lane.waiting

-- what a worker is given can be done in this system
abbrev pub CanDo : System → WorkerTurn → Type 0
CanDo system (Build tcp lane) = CanBuild system tcp lane
CanDo system (Run task) = CanRun system task
CanDo system Wait = Unit {0}
CanDo system Stop = Unit {0}
