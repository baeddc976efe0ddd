-- Which trail it is.
use Rattle.pw_trail.specs.Format.{units_in}
use Rattle.pw_trail.specs.Stored.{those}
use Rattle.pw_store_runs.proofs.system.run_system.Given as goal

abbrev pub ghosts-run_kept : goal.ghosts-run_kept
ghosts-run_kept g a = record {
  files = a.trail.log.files;
  before = those (units_in a.trail.log.files (g.D.Disk.settled a.trail.log.disk));
  least = g.D.Disk.faults a.trail.log.disk;
}
