-- How a run of a world ends, and what stays the same of the world.
use Rattle.std.specs.Prelude.{◌≡◌, ℕ, List, length, take, true, false}
use Rattle.pw_code.specs.declared.system.System.{System}
use Rattle.pw_event.specs.declared.event.Event.{Event}
use Rattle.pw_event.specs.declared.script.FailLine.{FailLine}
use Rattle.pw_world_model.specs.Answers.{HasFailed, IsFull}
use Rattle.pw_world_model.specs.Seen.{Seen, finished}
use Rattle.pw_workers.specs.declared.end.RunEnd.{RunEnd}
use Rattle.pw_workers.specs.declared.end.RunEnd.TheVariants.{Finished, Limit, DiscFault, Memory}

-- the log is neither finished nor as long as it may be
pub record RunGoesOn (world : Seen) : Type 0 where
  pub unfinished : finished world ≡ false
  pub room : ¬ IsFull world

-- Finished exactly where the log is; Limit exactly where it is not, and has as many entries as it may; DiscFault only
-- where the disc has failed; and Memory, which may come at any time, is the end of every other run
abbrev pub EndsSo : RunEnd → Seen → Type 0
EndsSo Finished world = finished world ≡ true
EndsSo Limit world = IsFull world
EndsSo DiscFault world = HasFailed world × RunGoesOn world
EndsSo Memory world = RunGoesOn world

-- The world is over this system, with this script and limit, its log begins with this one, and this was its disc's
-- count when it was made.
pub record IsFor (system : System) (script : List FailLine) (log : List Event) (limit faults : ℕ) (world : Seen)
    : Type 0 where
  pub system_is : world.system ≡ system
  pub script_is : world.script ≡ script
  pub begins : take (length log) world.log ≡ log
  pub limit_is : world.limit ≡ limit
  pub count : world.faults ≡ faults
