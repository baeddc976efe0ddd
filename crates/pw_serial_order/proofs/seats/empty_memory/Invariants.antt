-- Those so far are changed.
use Rattle.std.proofs.Common.{◌≡◌, ◌++◌, take, drop}
use Rattle.pw_serial_order.specs.Pairs.{of_pair}
use Rattle.pw_serial_order.specs.Seats.{without_memory}
use Rattle.pw_serial_order.proofs.seats.empty_memory.Given as goal

abbrev pub invariant-loop-seat : goal.invariant-loop-seat
invariant-loop-seat l =
    l.seat-items
    ≡ of_pair l.tcp without_memory (take l.seat-index l.initial.seat-items) ++ drop l.seat-index l.initial.seat-items
