-- Those so far have seats.
use Rattle.std.proofs.Common.{◌≡◌, map, take}
use Rattle.pw_serial_order.specs.Seats.{new_seat}
use Rattle.pw_serial_order.proofs.seats.seats_of.Given as goal

abbrev pub invariant-loop-terminal : goal.invariant-loop-terminal
invariant-loop-terminal l = l.seats.items ≡ map (λ terminal. new_seat terminal.tcp) (take l.terminal-index l.terminal-items)
