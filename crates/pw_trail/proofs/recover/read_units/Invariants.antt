-- The units so far were taken, and the disk is as it was.
use Rattle.std.proofs.Common.{◌≡◌, ◌-◌, ◌≤◌, length}
use Rattle.pw_volume.specs.Crash.{NoMore}
use Rattle.pw_trail.proofs.Recovering.{IsReading}
use Rattle.pw_trail.proofs.recover.read_units.Given as goal

abbrev pub invariant-loop-body : goal.invariant-loop-body
invariant-loop-body g l = record {
  reading : IsReading l.files (g.D.Disk.bytes l.fn.disk) (g.R.Recovery.taken l.into) l.at;
  system : g.R.Recovery.system l.into ≡ g.R.Recovery.system l.fn.into;
  bytes : g.D.Disk.bytes l.disk ≡ g.D.Disk.bytes l.fn.disk;
  images : NoMore (g.D.Disk.may_leave l.fn.disk) (g.D.Disk.may_leave l.disk);
  count : g.D.Disk.faults l.fn.disk ≤ g.D.Disk.faults l.disk;
  life : g.D.Disk.life l.disk ≡ g.D.Disk.life l.fn.disk;
  total : l.total ≡ length (g.D.Disk.bytes l.fn.disk);
}

abbrev pub decreases-loop-body : goal.decreases-loop-body
decreases-loop-body g l = l.total - l.at
