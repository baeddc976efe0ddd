-- What the run of a system over a trail comes to that is crashed and recovered.
use Rattle.std.specs.Prelude.{◌≡◌, ℕ, ◌-◌, ◌/◌, ◌<◌, false, List, [], ◌++◌, length}
use Rattle.pw_code.specs.declared.file.FileInfo.{FileInfo}
use Rattle.pw_code.specs.declared.system.System.{System}
use Rattle.pw_event.specs.declared.event.Event.{Event}
use Rattle.pw_report_text.specs.Meaning.{files_text}
use Rattle.pw_onecopy.specs.Behaviour.{Behaviour}
use Rattle.pw_paired.specs.Step.{IsRun, after, is_finished}
use Rattle.pw_paired.specs.Units.{committed_files}
use Rattle.pw_deck_runs.specs.recovery.Commits.{commits}
use Rattle.pw_deck_runs.specs.declared.recovery.ending.Recovered.{Recovered}
use Rattle.pw_deck_runs.specs.declared.recovery.ending.Recovered.TheVariants.{Full, Irregular, Regular, Stopped}
use Rattle.pw_workers.specs.Endings.{EndsAs}
use Rattle.pw_workers.specs.declared.ending.LogEnding.{LogEnding}
use Rattle.pw_workers.specs.declared.ending.LogEnding.TheVariants as ended
use Rattle.pw_trail.specs.Files.{files_after}
use Rattle.pw_trail.specs.declared.changes.UnitChanges.{UnitChanges}

-- the end of a run whose disk has not failed
abbrev pub as_recovered : LogEnding → Recovered
as_recovered ended.Regular = Regular
as_recovered ended.Irregular = Irregular
as_recovered ended.Full = Full

-- the records are the deck's after the changes of the units from before and of so many more, one after the other
pub record AreAfter (before : List UnitChanges) (count : ℕ) (files : List FileInfo) (records : ℕ → List (List ℕ)) : Type 0 where
  pub units : List UnitChanges
  pub many : length units ≡ count
  pub are : records ≡ files_after files (before ++ units)

-- The log is unfinished and not full, as where the disk fails from call number `at` on, which is above 0: (at - 1) / 4 units of it
-- commit, each by four calls, and the records are those after so many.
pub record StopsAt (at : ℕ) (files : List FileInfo) (events : ℕ) (sys : Behaviour) (log : List Event) : Type 0 where
  pub some : 0 < at
  pub unfinished : is_finished sys (after sys log) ≡ false
  pub room : length log < events
  pub commit : commits sys log ≡ (at - 1) / 4
  pub records : AreAfter [] ((at - 1) / 4) files (committed_files sys (after sys log))

-- the run has ended as its log says, or by a fault of the disk
abbrev pub EndsRecoveredRun : Recovered → ℕ → List FileInfo → ℕ → Behaviour → List Event → Type 0
EndsRecoveredRun Regular at files events sys log = EndsAs ended.Regular events sys log
EndsRecoveredRun Irregular at files events sys log = EndsAs ended.Irregular events sys log
EndsRecoveredRun Full at files events sys log = EndsAs ended.Full events sys log
EndsRecoveredRun Stopped at files events sys log = StopsAt at files events sys log

-- the text lists the records of a run that ended so
pub record RecoversTo (sys : Behaviour) (system : System) (events at : ℕ) (recovered : Recovered)
    (text : List ℕ) : Type 0 where
  pub log : List Event
  pub run : IsRun sys log
  pub ends : EndsRecoveredRun recovered at system.files events sys log
  pub is : text ≡ files_text system sys log
