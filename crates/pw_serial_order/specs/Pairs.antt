-- What failures, takeovers and new backups make of what is kept of a pair.
use Rattle.std.specs.Prelude.{ℕ, ◌==◌, ◌&&◌, Bool, true, false, List, map, Option, Some, None, if◌then◌else◌}
use Rattle.std.specs.List.{list_any}
use Rattle.pw_serial_order.specs.Seats.{down, is_lacking, lost, without_backup}
use Rattle.pw_serial_order.specs.declared.pair.Loss.{Loss}
use Rattle.pw_serial_order.specs.declared.pair.Loss.TheVariants.{Nothing, Primary, Backup, Pair}
use Rattle.pw_serial_order.specs.declared.pair.OrderMode.{OrderMode}
use Rattle.pw_serial_order.specs.declared.pair.OrderMode.TheVariants.{Alone, Backed, Down, Gone}
use Rattle.pw_serial_order.specs.declared.seat.OrderSeat.{OrderSeat}

-- what is lost when the primary or the backup fails, where the backup lacks a live terminal or none
abbrev pub loss_of : OrderMode → Bool → Bool → Loss
loss_of Backed true lacks = if lacks then Pair else Primary
loss_of Backed false lacks = Backup
loss_of Alone true lacks = Pair
loss_of Alone false lacks = Nothing
loss_of Down true lacks = Nothing
loss_of Down false lacks = Pair
loss_of Gone primary lacks = Nothing

-- the mode behind a loss
abbrev pub mode_behind : Loss → OrderMode → OrderMode
mode_behind Nothing mode = mode
mode_behind Primary mode = Down
mode_behind Backup mode = Alone
mode_behind Pair mode = Gone

-- the seat of a terminal of the pair
abbrev pub seat_behind_loss : Loss → OrderSeat → OrderSeat
seat_behind_loss Nothing seat = seat
seat_behind_loss Primary seat = down seat
seat_behind_loss Backup seat = without_backup seat
seat_behind_loss Pair seat = lost seat

-- the seat is of a terminal of the pair
abbrev pub is_of : ℕ → OrderSeat → Bool
is_of tcp seat = seat.tcp == tcp

-- the same of any pair
abbrev pub is_seat_of_pair : Option ℕ → OrderSeat → Bool
is_seat_of_pair None seat = true
is_seat_of_pair (Some tcp) seat = is_of tcp seat

-- the seats of a pair are changed so
abbrev pub of_pair : ℕ → (OrderSeat → OrderSeat) → List OrderSeat → List OrderSeat
of_pair tcp change seats = map (λ seat. if is_of tcp seat then change seat else seat) seats

-- the backup of the pair lacks a live terminal
abbrev pub lacks : ℕ → List OrderSeat → Bool
lacks tcp seats = list_any (λ seat. is_of tcp seat && is_lacking seat) seats
