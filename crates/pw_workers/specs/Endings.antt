-- How a run ends.
use Rattle.std.specs.Prelude.{◌≡◌, ℕ, ◌≤◌, Bool, true, false, List, length}
use Rattle.std.specs.List.{list_all}
use Rattle.pw_input_output.specs.declared.status.Status as call
use Rattle.pw_input_output.specs.declared.status.Status.TheVariants as status
use Rattle.pw_code.specs.declared.system.System.{System}
use Rattle.pw_event.specs.declared.event.Ending.{Ending}
use Rattle.pw_event.specs.declared.event.Ending.TheVariants.{NoEntries, Stopped}
use Rattle.pw_event.specs.declared.event.Event.{Event}
use Rattle.pw_event.specs.declared.event.Event.TheVariants.{End}
use Rattle.pw_report_text.specs.Meaning.{report_text}
use Rattle.pw_onecopy.specs.Behaviour.{Behaviour}
use Rattle.pw_paired.specs.Step.{IsRun, after, is_finished}
use Rattle.pw_workers.specs.declared.ending.LogEnding.{LogEnding}
use Rattle.pw_workers.specs.declared.ending.LogEnding.TheVariants.{Full, Irregular, Regular}

-- the ending is STOPPED or NOENTRIES
abbrev pub is_regular_ending : Ending → Bool
is_regular_ending Stopped = true
is_regular_ending NoEntries = true
is_regular_ending _ = false

-- the entry ends no terminal, or one so
abbrev pub is_regular : Event → Bool
is_regular (End t ending) = is_regular_ending ending
is_regular _ = true

-- each ending of the log is such
abbrev pub all_regular : List Event → Bool
all_regular log = list_all is_regular log

-- the log is finished, with such endings alone or with another one; or it has as many entries as it may, and is not
abbrev pub HasEndedAs : LogEnding → ℕ → Behaviour → List Event → Type 0
HasEndedAs Regular events sys log = (is_finished sys (after sys log) ≡ true) × (all_regular log ≡ true)
HasEndedAs Irregular events sys log = (is_finished sys (after sys log) ≡ true) × (all_regular log ≡ false)
HasEndedAs Full events sys log = (length log ≡ events) × (is_finished sys (after sys log) ≡ false)

-- a log of at most so many entries has ended so
pub record EndsAs (ended : LogEnding) (events : ℕ) (sys : Behaviour) (log : List Event) : Type 0 where
  pub room : length log ≤ events
  pub has : HasEndedAs ended events sys log

-- the status of a run that ended so
abbrev pub status_of : LogEnding → call.Status
status_of Regular = status.Finished
status_of Irregular = status.Irregular
status_of Full = status.Limit

-- the text is the report of a run that ended so
pub record IsReportOfRun (sys : Behaviour) (system : System) (events : ℕ) (ended : LogEnding) (text : List ℕ) : Type 0 where
  pub log : List Event
  pub run : IsRun sys log
  pub ends : EndsAs ended events sys log
  pub is : text ≡ report_text system sys log
