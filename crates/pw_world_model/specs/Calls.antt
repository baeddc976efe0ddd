-- What the other calls of a world answer: `lend`, `give_back`, `build_first` and `replay`.
use Rattle.std.specs.Prelude.{◌≡◌, ◌-◌, ◌↔◌, ℕ, ◌≤◌, Bool, true, false, IsTrue, List, find, length, take, Option, Some, None, slice_get}
use Rattle.pw_code.specs.Limits.{most_log_lines}
use Rattle.pw_code.specs.declared.system.System.{System}
use Rattle.pw_event.specs.declared.event.Event.{Event}
use Rattle.pw_event.specs.declared.script.FailLine.{FailLine}
use Rattle.pw_code_meaning.specs.OfSystem.{behaviour}
use Rattle.pw_world_state.specs.Changes.{at_pair}
use Rattle.pw_world_state.specs.Entered.{tcp_of}
use Rattle.pw_world_state.specs.TerminalTests.{seen_pair_of}
use Rattle.pw_world_model.specs.Seen.{Seen}
use Rattle.pw_actor_queue.specs.declared.actor.Actor.{Actor}
use Rattle.pw_onecopy.specs.Behaviour.{Behaviour}
use Rattle.pw_pair.specs.Pairs.{SeenPair, changed_at}
use Rattle.pw_pair.specs.SeenTask.{SeenDone, SeenTask}
use Rattle.pw_pair.specs.Seats.{built, is_waiting}
use Rattle.pw_pair.specs.Tasks.{task_at, waiting_task}
use Rattle.pw_paired.specs.Step.{IsRun, Legal, after}
use Rattle.pw_tmf.specs.Told.{Told}

-- ---- lend and give_back

-- the task of the pair's first terminal whose message in flight is not built
abbrev pub lent : SeenPair → Option SeenTask
lent pair = task_at (find is_waiting pair.seats)

-- The image is filed exactly where the terminal's message in flight and the start image that is held are those of the
-- task and the message is not built; nothing else changes.
pub record GivesBack (world : Seen) (done : SeenDone) (filed : Bool) (new : Seen) : Type 0 where
  pub files : IsTrue filed
      ↔ (waiting_task done.task.terminal (seen_pair_of world.system world.kept done.task.terminal) ≡ Some done.task)
  pub files_it : filed ≡ true → new ≡ record world {
    kept = at_pair (tcp_of world.system done.task.terminal) (changed_at done.task.terminal built) world.kept;
  }
  pub late : filed ≡ false → new ≡ world

-- ---- build_first

-- the image of the pair's first terminal whose message in flight is not built was built, if there is one: lent, built and
-- given back in one call; nothing else changes
abbrev pub BuildsHere : Seen → ℕ → Bool → Seen → Type 0
BuildsHere world p true new = (task : SeenTask) × ((lent (world.kept.pairs p) ≡ Some task)
    × (new ≡ record world { kept = at_pair p (changed_at task.terminal built) world.kept }))
BuildsHere world p false new = (lent (world.kept.pairs p) ≡ None) × (new ≡ world)

-- ---- replay

-- entry n of the log, counted from 1, is its first that is no step
pub record IsFirstNoStep (sys : Behaviour) (log : List Event) (n : ℕ) : Type 0 where
  pub from_one : 1 ≤ n
  pub within : n ≤ length log
  pub before : IsRun sys (take (n - 1) log)
  pub entry : Event
  pub here : slice_get log (n - 1) ≡ Some entry
  pub no_step : ¬ Legal sys (after sys (take (n - 1) log)) entry

-- a world of this system and script, and of a disc with this count of faults, behind exactly this log
pub record IsReplayed (system : System) (script : List FailLine) (disc : Told) (log : List Event)
    (world : Seen) : Type 0 where
  pub run : IsRun (behaviour script system) log
  pub system_is : world.system ≡ system
  pub script_is : world.script ≡ script
  pub log_is : world.log ≡ log
  pub limit_is : world.limit ≡ most_log_lines
  pub count : world.faults ≡ disc.faults
  pub sound : world.failed ≡ false
  pub inside : (actor : Actor) → world.out actor ≡ false
