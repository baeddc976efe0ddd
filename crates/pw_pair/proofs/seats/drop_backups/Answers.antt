-- The next one is changed too.
use Rattle.std.proofs.lemmas.List.Edits.{map_over_more}
use Rattle.pw_pair.specs.Seats.{without_backup}
use Rattle.pw_pair.proofs.seats.drop_backups.Goals as goal

pub loop-seat-preserved : goal.loop-seat-preserved
loop-seat-preserved c =
    rw (c.drop_backup.ensures, ← c.seat-item.is)
    (map_over_more without_backup c.deref_mut-seat-items.result.now c.loop-seat.seat-items c.loop-seat.seat-index c.seat-item.result
    c.loop-seat-test.true c.loop-seat.invariant c.seat-item.is)
