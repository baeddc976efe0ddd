-- What a run over a trail that knows which it is comes to.
use Rattle.std.specs.Prelude.{◌≡◌, ℕ, ◌<◌, false, List, length}
use Rattle.pw_code.specs.declared.file.FileInfo.{FileInfo}
use Rattle.pw_event.specs.declared.event.Event.{Event}
use Rattle.pw_onecopy.specs.Behaviour.{Behaviour}
use Rattle.pw_paired.specs.Step.{IsRun, after, is_finished}
use Rattle.pw_paired.specs.Units.{committed_files}
use Rattle.pw_deck_runs.specs.recovery.Commits.{commits}
use Rattle.pw_deck_runs.specs.recovery.Kept.{EndsBehind}
use Rattle.pw_deck_runs.specs.recovery.Runs.{AreAfter}
use Rattle.pw_deck_runs.specs.declared.recovery.ending.Recovered.{Recovered}
use Rattle.pw_deck_runs.specs.declared.recovery.ending.Recovered.TheVariants.{Full, Irregular, Regular, Stopped}
use Rattle.pw_workers.specs.Endings.{EndsAs}
use Rattle.pw_workers.specs.declared.ending.LogEnding.TheVariants as ended
use Rattle.pw_trail.specs.declared.changes.UnitChanges.{UnitChanges}
use Rattle.pw_volume.specs.Life.{Life}

-- The disk has failed: the log goes on no more, as many units of it commit as the disk's life has four calls for, and the
-- committed records are those behind the units from before and so many.
pub record StopsOver (before : List UnitChanges) (life : Life) (files : List FileInfo) (events : ℕ) (sys : Behaviour)
    (log : List Event) : Type 0 where
  pub unfinished : is_finished sys (after sys log) ≡ false
  pub room : length log < events
  pub count : ℕ
  pub commit : commits sys log ≡ count
  pub ends : EndsBehind count life
  pub records : AreAfter before count files (committed_files sys (after sys log))

-- the run has ended as its log says, or by a fault of the disk
abbrev pub EndsOver : Recovered → List UnitChanges → Life → List FileInfo → ℕ → Behaviour → List Event → Type 0
EndsOver Regular before life files events sys log = EndsAs ended.Regular events sys log
EndsOver Irregular before life files events sys log = EndsAs ended.Irregular events sys log
EndsOver Full before life files events sys log = EndsAs ended.Full events sys log
EndsOver Stopped before life files events sys log = StopsOver before life files events sys log

-- a run over a trail of these files with these units, on a disk with this life, which tells these records as committed
pub record RanOverTrail (files : List FileInfo) (before : List UnitChanges) (life : Life) (sys : Behaviour) (events : ℕ) (recovered : Recovered)
    (records : ℕ → List (List ℕ)) : Type 0 where
  pub log : List Event
  pub run : IsRun sys log
  pub ends : EndsOver recovered before life files events sys log
  pub are : records ≡ committed_files sys (after sys log)
