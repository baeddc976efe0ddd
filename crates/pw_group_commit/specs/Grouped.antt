-- What a trail keeps whose units are made durable in groups.
use Rattle.std.specs.Prelude.{◌≡◌, ◌⊎◌, ℕ, ◌≤◌, Bool, true, false, List, ◌++◌, length, drop, Ok}
use Rattle.pw_base.specs.Outside.{Rose}
use Rattle.pw_code.specs.declared.file.FileInfo.{FileInfo}
use Rattle.pw_trail.specs.Calls.{DiskHoldsUnits, moment}
use Rattle.pw_trail.specs.Format.{units_in}
use Rattle.pw_trail.specs.Groups.{IsGroup, units_of}
use Rattle.pw_trail.specs.declared.changes.UnitChanges.{UnitChanges}

-- how many units a group has at most
abbrev pub most_in_group : ℕ
most_in_group = 32

-- what contracts see of its log: its files, its disk, whether that has failed, the records that wait, and how many they are
pub record GroupState (S : Type 0) : Type 0 where
  pub files : List FileInfo
  pub disk : S
  pub is_broken : Bool
  pub waiting : List ℕ
  pub count : ℕ

abbrev pub group_state : {S : Type 0} → List FileInfo → S → Bool → List ℕ → ℕ → GroupState S
group_state files disk is_broken waiting count =
    record { files = files; disk = disk; is_broken = is_broken; waiting = waiting; count = count }

-- the units that are settled: those that the last sync has left behind the ones from before
abbrev pub settled_units : {S : Type 0} → (S → List ℕ) → List UnitChanges → GroupState S → List UnitChanges
settled_units settled before log = drop (length before) (units_of log.files (settled log.disk))

-- the units that wait
abbrev pub waiting_units : {S : Type 0} → GroupState S → List UnitChanges
waiting_units log = units_of log.files log.waiting

-- all that were added, in their order
abbrev pub added_units : {S : Type 0} → (S → List ℕ) → List UnitChanges → GroupState S → List UnitChanges
added_units settled before log = settled_units settled before log ++ waiting_units log

-- an image has these units, or these and the whole group behind them
abbrev pub HasOrWithGroup : List FileInfo → List UnitChanges → List UnitChanges → List ℕ → Type 0
HasOrWithGroup files units group image = (units_in files image ≡ Ok units) ⊎ (units_in files image ≡ Ok (units ++ group))

-- The disk has failed: each image has the units that are settled, or these and the group that was being written, whole.
pub record GroupStops {S : Type 0} (images : S → List ℕ → Type 0) (faulted : S → ℕ) (least : ℕ)
    (units group : List UnitChanges) (log : GroupState S) : Type 0 where
  pub leaves : (image : List ℕ) → images log.disk image → HasOrWithGroup log.files units group image
  pub rose : Rose least (faulted log.disk)

-- It has these files, and began with the units from before on a disk with this count of faults. At most a group waits. Until a
-- fault of the disk what that holds and each image have the units that are settled.
pub record IsGroupLog {S : Type 0} (held : S → List ℕ) (images : S → List ℕ → Type 0) (settled : S → List ℕ) (faulted : S → ℕ)
    (files : List FileInfo) (before : List UnitChanges) (least : ℕ) (log : GroupState S) : Type 0 where
  pub files_are : log.files ≡ files
  pub waits : IsGroup log.files (waiting_units log) log.waiting
  pub count : log.count ≡ length (waiting_units log)
  pub few : log.count ≤ most_in_group
  pub synced : units_in log.files (settled log.disk) ≡ Ok (before ++ settled_units settled before log)
  pub faults : least ≤ faulted log.disk
  pub goes : log.is_broken ≡ false
      → DiskHoldsUnits held images (moment log.files log.disk log.is_broken) (Ok (before ++ settled_units settled before log))
  pub stops : log.is_broken ≡ true
      → GroupStops images faulted least (before ++ settled_units settled before log) (waiting_units log) log
