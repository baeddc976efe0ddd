-- What contracts see of a disk in memory.
use Rattle.std.specs.Prelude.{◌≡◌, ◌⊎◌, ◌≤◌, ℕ, List, length, take, Option, Some, None, if◌then◌else◌, Bool}
use Rattle.pw_volume.specs.Life.{Life, Endless, Calls}

-- the bytes that a read gives, those of the last sync, how many writes, cuts and syncs still pass where it
-- is to stop, and the count of faults
pub record MemDiskState : Type 0 where
  pub bytes : List ℕ
  pub synced : List ℕ
  pub left : Option ℕ
  pub faults : ℕ

-- up to a place in both, two lists of bytes are the same
pub record AreSame (place : ℕ) (bytes synced : List ℕ) : Type 0 where
  pub in_bytes : place ≤ length bytes
  pub in_synced : place ≤ length synced
  pub equal : take place bytes ≡ take place synced

-- a disk lives as long as it was told
abbrev pub life_by : Option ℕ → Life
life_by None = Endless
life_by (Some left) = Calls left

-- a crash keeps all, or loses all since the last sync
abbrev pub MayLeave : MemDiskState → List ℕ → Type 0
MayLeave disk image = (image ≡ disk.bytes) ⊎ (image ≡ disk.synced)

-- what a crash leaves: what a read gives, or what the last sync left
abbrev pub left_by_crash : Bool → MemDiskState → List ℕ
left_by_crash keep disk = if keep then disk.bytes else disk.synced

-- the disk behind a crash: these bytes are all that there is, and it has no stop
abbrev pub crashed : Bool → MemDiskState → MemDiskState
crashed keep disk = record {
  bytes = left_by_crash keep disk;
  synced = left_by_crash keep disk;
  left = None;
  faults = disk.faults;
}
