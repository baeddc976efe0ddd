-- What is read off a disk in memory.
use Rattle.std.specs.Prelude.{ℕ, List}
use Rattle.pw_volume.specs.Life.{Life}
use Rattle.pw_volume.specs.MemDisk.{MemDiskState, life_by}

-- the bytes that a read gives
abbrev pub held : MemDiskState → List ℕ
held disk = disk.bytes

-- those of the last sync
abbrev pub synced : MemDiskState → List ℕ
synced disk = disk.synced

-- how long it lives
abbrev pub lives : MemDiskState → Life
lives disk = life_by disk.left
