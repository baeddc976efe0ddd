-- The blocks of those so far are put, and there is room for the others'.
use Rattle.std.proofs.Common.{◌≡◌, ◌+◌, ◌≤◌, ◌++◌, length}
use Rattle.std.specs.Prelude.{vec_len, vec_capacity}
use Rattle.pw_serial_order.specs.Entries.{left_to}
use Rattle.pw_serial_order.specs.Pairs.{is_seat_of_pair}
use Rattle.pw_serial_order.proofs.seats.put_left.Given as goal

abbrev pub invariant-loop-terminal : goal.invariant-loop-terminal
invariant-loop-terminal l = record {
  blocks : l.order.items ≡ l.initial.order.items ++ left_to (is_seat_of_pair l.tcp) l.seats l.terminal;
  room : vec_len l.order + length l.seats ≤ vec_capacity l.order + l.terminal;
}
