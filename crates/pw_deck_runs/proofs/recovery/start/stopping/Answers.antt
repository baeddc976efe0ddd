-- A stop changes no byte.
use Rattle.std.proofs.Common.{sym, subst}
use Rattle.pw_trail.specs.Stored.{Keeps}
use Rattle.pw_volume.specs.MemDisk.{MayLeave, MemDiskState}
use Rattle.pw_deck_runs.proofs.recovery.start.stopping.Goals as goal

pub invariant_of-result : goal.invariant_of-result
invariant_of-result c = record {
  sound = λ goes.
      subst (λ (d : MemDiskState). Keeps c.args.trail.log.files d.bytes (MayLeave d) c.args.trail.log.end)
      (sym c.stop_after.ensures) (c.args.trail.log.sound goes);
}
