-- What is behind the lock of a run.
use Rattle.std.specs.Prelude.{◌≡◌, ℕ, List, length, Option, IfSome}
use Rattle.pw_code.specs.declared.system.System.{System}
use Rattle.pw_event.specs.declared.event.Event.{Event}
use Rattle.pw_event.specs.declared.script.FailLine.{FailLine}
use Rattle.pw_world.specs.States.{WorldState}
use Rattle.pw_world_model.specs.Seen.{Seen}
use Rattle.std.specs.Option.{ForSome}
use Rattle.pw_world_model.specs.declared.task.Task.{Task}
use Rattle.pw_workers.specs.Ends.{EndsSo, IsFor}
use Rattle.pw_workers.specs.Turns.{CanRun}
use Rattle.pw_workers.specs.declared.calls.WorkerCalls.{WorkerCalls}
use Rattle.pw_workers.specs.declared.end.RunEnd.{RunEnd}
use Rattle.pw_workers.specs.declared.lane.LinkLane.{LinkLane}

-- what contracts see of it: the world, the lane of each pair, where it is in its place, the task that is claimed for
-- whoever comes next, if there is one, how the run has ended, if it has, and who waits
pub record Locked (D : Type 0) : Type 0 where
  pub world : WorldState D
  pub lanes : List (Option LinkLane)
  pub ready : Option Task
  pub end : Option RunEnd
  pub calls : WorkerCalls

-- the world is the one that was handed in, as far as it stays the same; behind its end it is as that says; each pair has
-- a place for its lane; and the task that is ready can be run
pub record IsLocked {D : Type 0} (system : System) (script : List FailLine) (log : List Event) (limit faults : ℕ)
    (world : Seen) (locked : Locked D) : Type 0 where
  pub same : IsFor system script log limit faults world
  pub ended : IfSome locked.end (λ end. EndsSo end world)
  pub places : length locked.lanes ≡ length system.tcps
  pub ready : ForSome locked.ready (CanRun system)
