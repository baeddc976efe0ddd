-- The schedule of a source, and its status.
use Rattle.std.specs.Prelude.{◌≡◌, ℕ, List, Option}
use Rattle.pw_expand.specs.Answers.{IsAnswered}
use Rattle.pw_expand.specs.declared.expand.ScheduleEnding.{ScheduleEnding}
use Rattle.pw_expand.specs.declared.expand.ScheduleEnding.TheVariants as ending
use Rattle.pw_input_output.specs.declared.status.Status.{Status}
use Rattle.pw_input_output.specs.declared.status.Status.TheVariants.{Finished, Refused}

-- the status of a schedule that is answered so
abbrev pub status_by : ScheduleEnding → Status
status_by ending.Expanded = Finished
status_by ending.Refused = Refused

-- what the schedule that the source had left is answered by: its messages and marks, or the line of its first fault
pub record OfSchedule (left : Option (List ℕ)) (status : Status) (text : List ℕ) : Type 0 where
  pub ending : ScheduleEnding
  pub is : status ≡ status_by ending
  pub answered : IsAnswered left ending text
