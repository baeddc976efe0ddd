-- Those so far have seats.
use Rattle.std.proofs.Common.{◌≡◌, map, take}
use Rattle.pw_status.specs.Attempts.{first_seat}
use Rattle.pw_status.proofs.attempts.first_seats.Given as goal

abbrev pub invariant-loop-terminal : goal.invariant-loop-terminal
invariant-loop-terminal l = l.seats.items ≡ map first_seat (take l.terminal-index l.terminal-items)
