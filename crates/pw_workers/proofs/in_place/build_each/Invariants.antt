use Rattle.std.proofs.Common.{◌≡◌, length}
use Rattle.pw_world.specs.States.{seen}
use Rattle.pw_workers.specs.InPlace.{BuildsEach}
use Rattle.pw_workers.proofs.in_place.build_each.Given as goal

abbrev pub invariant-loop-tcp : goal.invariant-loop-tcp
invariant-loop-tcp g l = record {
  same : l.world.keep.system ≡ l.fn.world.keep.system;
  pairs : l.pairs ≡ length l.fn.world.keep.system.tcps;
  built : BuildsEach l.tcp (seen g.D.Disc.told l.fn.world) (seen g.D.Disc.told l.world);
}
