-- What the run of a system over a trail comes to, whose files are like the system's.
use Rattle.std.specs.Prelude.{◌≡◌, ℕ, List, Ok}
use Rattle.pw_code.specs.declared.file.FileInfo.{FileInfo}
use Rattle.pw_code.specs.declared.system.System.{System}
use Rattle.pw_code_meaning.specs.OfSystem.{behaviour}
use Rattle.pw_deck_runs.specs.recovery.Kept.{TrailState, told_in}
use Rattle.pw_event.specs.declared.script.FailLine.{FailLine}
use Rattle.pw_group_commit.specs.declared.follower.UnitName.{UnitName}
use Rattle.pw_records.specs.Records.{AreRecordsOf, over_records, with_records}
use Rattle.pw_store_runs.specs.Left.{RunsStored}
use Rattle.pw_store_runs.specs.declared.ending.Stored.{Stored}
use Rattle.pw_tmf.specs.Starting.{told_at_start}
use Rattle.pw_trail.specs.Calls.{DiskHoldsUnits, moment}
use Rattle.pw_trail.specs.Files.{files_after}
use Rattle.pw_trail.specs.Format.{units_in}
use Rattle.pw_trail.specs.declared.changes.UnitChanges.{UnitChanges}

-- The bytes are a trail of units of these files, which lead to records of the system, and the system has run over these.
pub record RunsOverTrail {S F : Type 0} (images : S → List ℕ → Type 0) (faulted : S → ℕ) (was_told : F → List UnitName → Type 0)
    (files : List FileInfo) (trail : List ℕ) (least : ℕ) (script : List FailLine) (system : System) (events : ℕ)
    (stored : Stored S F) : Type 0 where
  pub units : List UnitChanges
  pub has : units_in files trail ≡ Ok units
  pub are : AreRecordsOf system (files_after files units)
  pub ends : RunsStored images faulted was_told files units least (over_records (behaviour script system) (files_after files units))
      (with_records system (files_after files units)) events stored

-- The trail has the units of the bytes, on its disk and in each image, no fault, and no commit yet; and the system is the one
-- with the records that they lead to, of which the trail is a disc.
pub record BeginsStored {S : Type 0} (held : S → List ℕ) (images : S → List ℕ → Type 0) (files : List FileInfo)
    (bytes : List ℕ) (system now : System) (trail : TrailState S) : Type 0 where
  pub units : List UnitChanges
  pub has : units_in files bytes ≡ Ok units
  pub are : AreRecordsOf system (files_after files units)
  pub now_is : now ≡ with_records system (files_after files units)
  pub tells : told_in trail ≡ told_at_start now
  pub files_are : trail.files ≡ files
  pub stands : DiskHoldsUnits held images (moment trail.files trail.disk trail.is_broken) (Ok units)
  pub faults : trail.faults ≡ 0
