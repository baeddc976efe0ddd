-- What the run of a system over a store leaves of it.
use Rattle.std.specs.Prelude.{◌≡◌, ◌≤◌, ◌++◌, ℕ, List, Ok, length}
use Rattle.pw_base.specs.Outside.{Rose}
use Rattle.pw_code.specs.declared.file.FileInfo.{FileInfo}
use Rattle.pw_code.specs.declared.system.System.{System}
use Rattle.pw_deck_runs.specs.recovery.Commits.{commits}
use Rattle.pw_event.specs.declared.event.Event.{Event}
use Rattle.pw_group_commit.specs.Followed.{names_of}
use Rattle.pw_group_commit.specs.Grouped.{HasOrWithGroup, most_in_group}
use Rattle.pw_group_commit.specs.declared.follower.UnitName.{UnitName}
use Rattle.pw_onecopy.specs.Behaviour.{Behaviour}
use Rattle.pw_paired.specs.Step.{IsRun, after}
use Rattle.pw_paired.specs.Units.{committed_files}
use Rattle.pw_report_text.specs.Meaning.{report_text}
use Rattle.pw_store_runs.specs.declared.ending.Stored.{Stored}
use Rattle.pw_store_runs.specs.declared.ending.Stored.TheVariants.{Ended, Failed}
use Rattle.pw_trail.specs.Files.{files_after}
use Rattle.pw_trail.specs.Format.{units_in}
use Rattle.pw_trail.specs.declared.changes.UnitChanges.{UnitChanges}
use Rattle.pw_workers.specs.Endings.{EndsAs}
use Rattle.pw_workers.specs.declared.ending.LogEnding.{LogEnding}

-- The trail has the units from before, and behind them one for each unit that commits in the log; they lead to the records
-- behind the log; and each image that a crash may leave has just these. The follower was told of those that commit, and of no
-- other, in their order.
pub record HasCommitted (files : List FileInfo) (before : List UnitChanges) (sys : Behaviour) (log : List Event)
    (images : List ℕ → Type 0) (told : List UnitName → Type 0) : Type 0 where
  pub units : List UnitChanges
  pub many : length units ≡ commits sys log
  pub lead : files_after files (before ++ units) ≡ committed_files sys (after sys log)
  pub leaves : (image : List ℕ) → images image → units_in files image ≡ Ok (before ++ units)
  pub followed : told (names_of units)

-- The units that commit in the log are those that are settled, and behind them at most a group that waits. Together they lead
-- to the records behind the log. Each image has the units from before and those that are settled, and the whole group or none
-- of it. The follower was told of those that are settled, and of no other, in their order.
pub record HasSettled (files : List FileInfo) (before : List UnitChanges) (sys : Behaviour) (log : List Event)
    (images : List ℕ → Type 0) (told : List UnitName → Type 0) : Type 0 where
  pub settled : List UnitChanges
  pub waiting : List UnitChanges
  pub many : length (settled ++ waiting) ≡ commits sys log
  pub few : length waiting ≤ most_in_group
  pub lead : files_after files (before ++ (settled ++ waiting)) ≡ committed_files sys (after sys log)
  pub leaves : (image : List ℕ) → images image → HasOrWithGroup files (before ++ settled) waiting image
  pub followed : told (names_of settled)

-- the run has ended so, the text is the report of its log, and its commits are there
pub record RanStored (files : List FileInfo) (before : List UnitChanges) (sys : Behaviour) (system : System) (events : ℕ)
    (ended : LogEnding) (text : List ℕ) (images : List ℕ → Type 0) (told : List UnitName → Type 0) : Type 0 where
  pub log : List Event
  pub run : IsRun sys log
  pub ends : EndsAs ended events sys log
  pub is : text ≡ report_text system sys log
  pub left : HasCommitted files before sys log images told

-- the disk has failed in a run, as its count of faults tells, and those of its commits are there that are settled
pub record StoppedStored (files : List FileInfo) (before : List UnitChanges) (sys : Behaviour) (images : List ℕ → Type 0)
    (told : List UnitName → Type 0) (least faults : ℕ) : Type 0 where
  pub log : List Event
  pub run : IsRun sys log
  pub left : HasSettled files before sys log images told
  pub rose : Rose least faults

-- one or the other
abbrev pub RunsStored : {S F : Type 0} → (S → List ℕ → Type 0) → (S → ℕ) → (F → List UnitName → Type 0) → List FileInfo
    → List UnitChanges → ℕ → Behaviour → System → ℕ → Stored S F → Type 0
RunsStored images faulted was_told files before least sys system events (Ended ended text disk follower) =
    RanStored files before sys system events ended text (images disk) (was_told follower)
RunsStored images faulted was_told files before least sys system events (Failed disk follower) =
    StoppedStored files before sys (images disk) (was_told follower) least (faulted disk)
