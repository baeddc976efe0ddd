-- Runs of calls of a disc over a trail, and what they leave on its disk.
use Rattle.std.specs.Prelude.{◌≡◌, ◌⊎◌, ℕ, ◌+◌, ◌≤◌, Bool, true, false, List, [], ◌∷◌, ◌++◌, length, Result, Ok, Err}
use Rattle.pw_code.specs.declared.file.FileInfo.{FileInfo}
use Rattle.pw_code.specs.declared.system.System.{System}
use Rattle.pw_tmf.specs.Told.{Told}
use Rattle.pw_tmf.specs.declared.answer.DiscFault.{DiscFault}
use Rattle.pw_tmf.specs.declared.answer.DiscFault.TheVariants as fault
use Rattle.pw_trail.specs.Files.{files_after, told_with, trail_files}
use Rattle.pw_trail.specs.Format.{units_in, with_last}
use Rattle.pw_trail.specs.declared.changes.UnitChanges.{UnitChanges}

-- ---- calls

-- a call of the disc: a commit of the unit whose record this is, with its answer, or any other one
pub data Call : Type 0 where
  Commit : (unit : UnitChanges) → (answer : Result Unit DiscFault) → Call
  Other : Call

-- the units whose commit was called and did not answer Memory, in the order of the calls
abbrev pub committed_by : List Call → List UnitChanges
committed_by [] = []
committed_by (Commit unit (Ok done) ∷ calls) = unit ∷ committed_by calls
committed_by (Commit unit (Err fault.Failed) ∷ calls) = unit ∷ committed_by calls
committed_by (Commit unit (Err fault.Memory) ∷ calls) = committed_by calls
committed_by (Other ∷ calls) = committed_by calls

-- the units whose commit answered Ok
abbrev pub acknowledged_by : List Call → List UnitChanges
acknowledged_by [] = []
acknowledged_by (Commit unit (Ok done) ∷ calls) = unit ∷ acknowledged_by calls
acknowledged_by (Commit unit (Err fault) ∷ calls) = acknowledged_by calls
acknowledged_by (Other ∷ calls) = acknowledged_by calls

-- ---- what is on the disk

-- a trail between two calls: its files, its disk, and whether the disk has failed
pub record Moment (S : Type 0) : Type 0 where
  pub files : List FileInfo
  pub disk : S
  pub is_broken : Bool

-- the files, the disk and whether it is broken, at one moment
abbrev pub moment : {S : Type 0} → List FileInfo → S → Bool → Moment S
moment files disk is_broken = record { files = files; disk = disk; is_broken = is_broken }

-- The disk has not failed, and what it holds and each image that a crash may leave have these units.
pub record DiskHoldsUnits {S : Type 0} (held : S → List ℕ) (images : S → List ℕ → Type 0) (now : Moment S)
    (read : Result (List UnitChanges) ℕ) : Type 0 where
  pub goes : now.is_broken ≡ false
  pub holds : units_in now.files (held now.disk) ≡ read
  pub leaves : (image : List ℕ) → images now.disk image → units_in now.files image ≡ read

-- an image has these units, or these with one more
abbrev pub HasEither : List FileInfo → Result (List UnitChanges) ℕ → UnitChanges → List ℕ → Type 0
HasEither files read unit image =
    (units_in files image ≡ read) ⊎ (units_in files image ≡ with_last read unit)

-- The disk has failed at the commit of this unit: an image has the units from before, or these with it.
pub record FailsAt {S : Type 0} (images : S → List ℕ → Type 0) (next : Moment S)
    (read : Result (List UnitChanges) ℕ) (unit : UnitChanges) : Type 0 where
  pub broken : next.is_broken ≡ true
  pub leaves : (image : List ℕ) → images next.disk image → HasEither next.files read unit image

-- what a commit leaves of a trail that stands at these units
abbrev pub CommitLeaves : {S : Type 0} → (S → List ℕ) → (S → List ℕ → Type 0)
    → Result (List UnitChanges) ℕ → UnitChanges → Result Unit DiscFault → Moment S → Type 0
CommitLeaves held images read unit (Ok done) next = DiskHoldsUnits held images next (with_last read unit)
CommitLeaves held images read unit (Err fault.Memory) next = DiskHoldsUnits held images next read
CommitLeaves held images read unit (Err fault.Failed) next = FailsAt images next read unit

-- ---- runs

-- A commit of the unit with this record. Once the disk has failed, it answers Failed and changes nothing.
pub record Commits {S : Type 0} (held : S → List ℕ) (images : S → List ℕ → Type 0) (now : Moment S)
    (unit : UnitChanges) (answer : Result Unit DiscFault) (next : Moment S) : Type 0 where
  pub files : next.files ≡ now.files
  pub stands : (read : Result (List UnitChanges) ℕ) → DiskHoldsUnits held images now read
      → CommitLeaves held images read unit answer next
  pub broken : now.is_broken ≡ true → (answer ≡ Err fault.Failed) × (next ≡ now)

-- no call but a commit changes anything
abbrev pub CallLeadsTo : {S : Type 0} → (S → List ℕ) → (S → List ℕ → Type 0) → Moment S → Call → Moment S
    → Type 0
CallLeadsTo held images now (Commit unit answer) next = Commits held images now unit answer next
CallLeadsTo held images now Other next = next ≡ now

-- a run of calls
abbrev pub CallsLeadTo : {S : Type 0} → (S → List ℕ) → (S → List ℕ → Type 0) → Moment S → List Call → Moment S
    → Type 0
CallsLeadTo held images now [] next = next ≡ now
CallsLeadTo {S} held images now (call ∷ calls) next =
    (mid : Moment S) × (CallLeadsTo held images now call mid × CallsLeadTo held images mid calls next)

-- ---- what is found again

-- the whole begins so
pub record IsPrefix {A : Type 0} (front whole : List A) : Type 0 where
  pub rest : List A
  pub is : whole ≡ front ++ rest

-- These units are found of those whose commit was called: they begin with each whose commit answered Ok and have at
-- most one more, and they are the first that were called, none skipped.
pub record AreFound (calls : List Call) (found : List UnitChanges) : Type 0 where
  pub all : IsPrefix (acknowledged_by calls) found
  pub few : length found ≤ length (acknowledged_by calls) + 1
  pub first : IsPrefix found (committed_by calls)

-- the bytes are a trail of the units from before and of such, and its records are those after them
pub record HasPrefixOf (files : List FileInfo) (before : List UnitChanges) (calls : List Call)
    (bytes : List ℕ) : Type 0 where
  pub found : List UnitChanges
  pub are : AreFound calls found
  pub units : units_in files bytes ≡ Ok (before ++ found)
  pub records : trail_files files bytes ≡ Ok (files_after files (before ++ found))

-- a disc has just those records, and no unit has begun there
pub record RecoversPrefixOf (system : System) (before : List UnitChanges) (calls : List Call)
    (told : Told) : Type 0 where
  pub found : List UnitChanges
  pub are : AreFound calls found
  pub is : told ≡ told_with system (files_after system.files (before ++ found))
