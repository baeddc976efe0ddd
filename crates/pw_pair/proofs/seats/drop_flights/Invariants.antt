-- Those so far are changed.
use Rattle.std.proofs.Common.{◌≡◌, ◌++◌, map, take, drop}
use Rattle.pw_pair.specs.Seats.{without_flight}
use Rattle.pw_pair.proofs.seats.drop_flights.Given as goal

abbrev pub invariant-loop-seat : goal.invariant-loop-seat
invariant-loop-seat l =
    l.seat-items ≡ map without_flight (take l.seat-index l.initial.seat-items) ++ drop l.seat-index l.initial.seat-items
