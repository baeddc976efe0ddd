-- Which trail it is.
use Rattle.std.specs.Prelude.{[]}
use Rattle.pw_volume.specs.MemDisk.{life_by}
use Rattle.pw_deck_runs.proofs.recovery.recover.run_beside.Given as goal

abbrev pub ghosts-run_known : goal.ghosts-run_known
ghosts-run_known g a = record { files = a.trail.log.files; before = []; life = life_by a.trail.log.disk.left }
