-- What a trail keeps through a run.
use Rattle.std.specs.Prelude.{◌≡◌, ◌⊎◌, ℕ, zero, suc, ◌+◌, ◌-◌, ◌*◌, ◌^◌, ◌<◌, ◌≤◌, Bool, true, false, List, [], ◌∷◌, ◌++◌, length, drop, min, Ok}
use Rattle.pw_code.specs.declared.file.FileInfo.{FileInfo}
use Rattle.pw_tmf.specs.Faulty.{with_faults}
use Rattle.pw_tmf.specs.Tmf.{TmfState, told_of}
use Rattle.pw_tmf.specs.Told.{Told}
use Rattle.pw_trail.specs.Calls.{DiskHoldsUnits, moment}
use Rattle.pw_trail.specs.Format.{units_in}
use Rattle.pw_trail.specs.Stored.{those}
use Rattle.pw_trail.specs.declared.changes.UnitChanges.{UnitChanges}
use Rattle.pw_volume.specs.Life.{Calls, Endless, Life, Passes, Untold}

-- what contracts see of it: its files, its disk, whether that has failed, its count of faults, and its records
pub record TrailState (S : Type 0) : Type 0 where
  pub files : List FileInfo
  pub disk : S
  pub is_broken : Bool
  pub faults : ℕ
  pub tmf : TmfState

abbrev pub trail_state : {S : Type 0} → List FileInfo → S → Bool → ℕ → TmfState → TrailState S
trail_state files disk is_broken faults tmf =
    record { files = files; disk = disk; is_broken = is_broken; faults = faults; tmf = tmf }

-- what it tells
abbrev pub told_in : {S : Type 0} → TrailState S → Told
told_in trail = with_faults trail.faults (told_of trail.tmf)

-- a disk whose call number `at` and each later one fail; 0 means none
abbrev pub life_to : ℕ → Life
life_to zero = Endless
life_to (suc calls) = Calls calls

-- the life has the calls of so many records, four each, and not those of one more
abbrev pub EndsBehind : ℕ → Life → Type 0
EndsBehind n Untold = Unit {0}
EndsBehind n Endless = ⊥
EndsBehind n (Calls left) = (4 * n ≤ left) × (left < 4 * n + 4)

-- The disk has not failed: it has the units from before and these, and each of these has taken four calls of its life.
pub record Goes {S : Type 0} (held : S → List ℕ) (images : S → List ℕ → Type 0) (lasts : S → Life)
    (before : List UnitChanges) (life : Life) (units : List UnitChanges) (trail : TrailState S) : Type 0 where
  pub stands : DiskHoldsUnits held images (moment trail.files trail.disk trail.is_broken) (Ok (before ++ units))
  pub passed : Passes (4 * length units) life (lasts trail.disk)
  pub faults : trail.faults ≡ 0

-- an image has these units, or these with one more
abbrev pub HasOrOneMore : List FileInfo → List UnitChanges → List ℕ → Type 0
HasOrOneMore files units image =
    (units_in files image ≡ Ok units) ⊎ ((unit : UnitChanges) × (units_in files image ≡ Ok (units ++ unit ∷ [])))

-- It has failed at the record of one unit more: its last sync has left the units from before and these, and a crash leaves
-- them, with that one or without.
pub record HasStopped {S : Type 0} (images : S → List ℕ → Type 0) (settled : S → List ℕ) (before : List UnitChanges)
    (life : Life) (units : List UnitChanges) (trail : TrailState S) : Type 0 where
  pub synced : units_in trail.files (settled trail.disk) ≡ Ok (before ++ units)
  pub leaves : (image : List ℕ) → images trail.disk image → HasOrOneMore trail.files (before ++ units) image
  pub ends : EndsBehind (length units) life

-- the units that the last sync has left behind those from before
abbrev pub units_since : {S : Type 0} → (S → List ℕ) → List UnitChanges → TrailState S → List UnitChanges
units_since settled before trail = drop (length before) (those (units_in trail.files (settled trail.disk)))

-- It has these files, and began with the units from before on a disk with this life; and a commit was counted for each unit
-- that the last sync has left behind them, up to the end of the count.
pub record IsKept {S : Type 0} (held : S → List ℕ) (images : S → List ℕ → Type 0) (settled : S → List ℕ) (lasts : S → Life)
    (files : List FileInfo) (before : List UnitChanges) (life : Life) (trail : TrailState S) : Type 0 where
  pub files_are : trail.files ≡ files
  pub counts : min (length (units_since settled before trail)) (2 ^ 64 - 1) ≡ trail.tmf.commits
  pub goes : trail.is_broken ≡ false → Goes held images lasts before life (units_since settled before trail) trail
  pub stopped : trail.is_broken ≡ true → HasStopped images settled before life (units_since settled before trail) trail
