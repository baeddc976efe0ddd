-- What contracts see of a disk over a file, and what a crash may leave of the file.
use Rattle.std.specs.Prelude.{◌≡◌, ◌⊎◌, ℕ, List, Option, None, Some}
use Rattle.pw_volume.specs.Crash.{Torn, Shortened}
use Rattle.pw_file_disk.specs.declared.change.OpenChange.{OpenChange}
use Rattle.pw_file_disk.specs.declared.change.OpenChange.TheVariants.{Wrote, Cut}

-- the bytes that a read gives, those of the disk's last sync, those of the file's last sync with the change
-- behind it, and the count of faults
pub record FileDiskState : Type 0 where
  pub bytes : List ℕ
  pub settled : List ℕ
  pub synced : List ℕ
  pub change : Option OpenChange
  pub faults : ℕ

-- a disk of these bytes, which are synced, and which has not failed
abbrev pub opened_with : List ℕ → FileDiskState
opened_with bytes = record { bytes = bytes; settled = bytes; synced = bytes; change = None; faults = 0 }

-- what a crash may make of synced bytes by a change behind the sync, made or not
abbrev pub MayMake : OpenChange → List ℕ → List ℕ → Type 0
MayMake (Wrote at n) synced image = Torn at n synced image
MayMake (Cut n) synced image = Shortened n synced image

-- the same, where there may be such a change
abbrev pub MayHaveMade : Option OpenChange → List ℕ → List ℕ → Type 0
MayHaveMade None synced image = ⊥
MayHaveMade (Some change) synced image = MayMake change synced image

-- what a crash may leave: what a read gives, what the disk's last sync left, or what it makes of the change that is
-- not synced
abbrev pub MayBeLeft : FileDiskState → List ℕ → Type 0
MayBeLeft disk image = (image ≡ disk.bytes) ⊎ (image ≡ disk.settled) ⊎ MayHaveMade disk.change disk.synced image

-- the file has these bytes, and they are synced where no change is open
pub record IsMirror (bytes has synced : List ℕ) (change : Option OpenChange) : Type 0 where
  pub all : has ≡ bytes
  pub closed : change ≡ None → synced ≡ bytes
