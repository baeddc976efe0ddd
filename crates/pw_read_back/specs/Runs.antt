-- Runs that the program makes.
use Rattle.std.specs.Prelude.{◌<◌, ◌≤◌, ◌^◌, All, List, length}
use Rattle.pw_code.specs.Limits.{most_log_lines}
use Rattle.pw_code.specs.Valid.{IsValid}
use Rattle.pw_code.specs.declared.system.System.{System}
use Rattle.pw_event.specs.declared.event.Event.{Event}
use Rattle.pw_event.specs.declared.script.FailLine.{FailLine}
use Rattle.pw_code_meaning.specs.OfSystem.{behaviour}
use Rattle.pw_world_state.specs.May.{IsLineThere}
use Rattle.pw_onecopy.specs.IsBehaviour.{IsBehaviour}
use Rattle.pw_paired.specs.Step.{IsRun}

-- The log is a run of a deck's system, and has no more entries than a log may have. Its failure
-- lines name what is there, and their numbers fit a `u32`.
pub record IsRunOf (system : System) (script : List FailLine) (log : List Event) : Type 0 where
  pub valid : IsValid system
  pub deck : IsBehaviour (behaviour script system)
  pub lines : All (IsLineThere system) script
  pub few : length script < 2 ^ 32
  pub run : IsRun (behaviour script system) log
  pub short : length log ≤ most_log_lines
