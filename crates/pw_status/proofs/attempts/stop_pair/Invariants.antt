-- Those so far are changed.
use Rattle.std.proofs.Common.{◌≡◌, ◌++◌, take, drop, map}
use Rattle.pw_status.specs.Attempts.{stopped_of}
use Rattle.pw_status.proofs.attempts.stop_pair.Given as goal

abbrev pub invariant-loop-seat : goal.invariant-loop-seat
invariant-loop-seat l =
    l.seat-items ≡ map (stopped_of l.tcp) (take l.seat-index l.initial.seat-items) ++ drop l.seat-index l.initial.seat-items
