-- Those so far are changed.
use Rattle.std.proofs.Common.{◌≡◌, ◌++◌, map, take, drop}
use Rattle.pw_pair.specs.Seats.{without_backup}
use Rattle.pw_pair.proofs.seats.drop_backups.Given as goal

abbrev pub invariant-loop-seat : goal.invariant-loop-seat
invariant-loop-seat l =
    l.seat-items ≡ map without_backup (take l.seat-index l.initial.seat-items) ++ drop l.seat-index l.initial.seat-items
