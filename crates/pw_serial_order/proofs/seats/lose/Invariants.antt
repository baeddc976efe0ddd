-- Those so far are changed.
use Rattle.std.proofs.Common.{◌≡◌, ◌++◌, take, drop}
use Rattle.pw_serial_order.specs.Pairs.{of_pair, seat_behind_loss}
use Rattle.pw_serial_order.proofs.seats.lose.Given as goal

abbrev pub invariant-loop-seat : goal.invariant-loop-seat
invariant-loop-seat l =
    l.seat-items
    ≡ of_pair l.tcp (seat_behind_loss l.loss) (take l.seat-index l.initial.seat-items) ++ drop l.seat-index l.initial.seat-items
