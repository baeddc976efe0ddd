use Rattle.std.proofs.Common.{◌≡◌}
use Rattle.pw_world.proofs.calling.call_seats.Given as goal

abbrev pub invariant-loop-seat : goal.invariant-loop-seat
invariant-loop-seat l = l.ledger ≡ l.fn.ledger
