-- A pair: its mode and the seats of its terminals.
use Rattle.std.specs.Prelude.{ℕ, ◌&&◌, Bool, true, false, not, List, map, filter, Option, Some, None, find, if◌then◌else◌}
use Rattle.std.specs.List.{list_any, filter_map}
use Rattle.pw_pair.specs.Seats.{applied, at_terminal, built, dropped, is_lacking, is_seat_of, put_each, with_message, without_backup, without_flight}
use Rattle.pw_pair.specs.declared.backup.Held.{Held}
use Rattle.pw_pair.specs.declared.message.CheckMessage.{CheckMessage}
use Rattle.pw_pair.specs.declared.mode.Mode.{Mode}
use Rattle.pw_pair.specs.declared.mode.Mode.TheVariants.{Alone, Raising, Paired, Down, Gone}
use Rattle.pw_pair.specs.declared.seat.Flight.{Flight}
use Rattle.pw_pair.specs.declared.seat.BackupSeat.{BackupSeat}

-- what contracts see of a pair
pub record SeenPair : Type 0 where
  pub mode : Mode
  pub seats : List BackupSeat

-- Raising becomes Paired where the memory lacks no live terminal
abbrev pub settled_mode : Mode → Bool → Mode
settled_mode Raising lacks = if lacks then Raising else Paired
settled_mode mode lacks = mode

-- the pair behind an entry that may have made its memory whole
abbrev pub settled : SeenPair → SeenPair
settled pair = record pair { mode = settled_mode pair.mode (list_any is_lacking pair.seats) }

-- the seat of the terminal is changed so
abbrev pub changed_at : ℕ → (BackupSeat → BackupSeat) → SeenPair → SeenPair
changed_at terminal change pair = record pair { seats = at_terminal terminal change pair.seats }

-- a message goes to the backup
abbrev pub after_send : CheckMessage → SeenPair → SeenPair
after_send message pair =
    changed_at message.terminal (with_message message.kind message.unit message.image) pair

-- the terminal's message is taken in
abbrev pub after_applied : ℕ → SeenPair → SeenPair
after_applied terminal pair = settled (changed_at terminal applied pair)

-- the terminal has ended
abbrev pub after_drop : ℕ → SeenPair → SeenPair
after_drop terminal pair = settled (changed_at terminal dropped pair)

-- each seat is changed so, in this mode
abbrev pub in_mode : Mode → (BackupSeat → BackupSeat) → SeenPair → SeenPair
in_mode mode change pair = record { mode = mode; seats = map change pair.seats }

-- a new backup that holds nothing
abbrev pub after_raise : SeenPair → SeenPair
after_raise pair = in_mode Raising without_backup pair

-- the primary fails
abbrev pub primary_fails : Mode → SeenPair → SeenPair
primary_fails Paired pair = in_mode Down without_flight pair
primary_fails Raising pair = in_mode Gone without_backup pair
primary_fails Alone pair = in_mode Gone without_backup pair
primary_fails Down pair = pair
primary_fails Gone pair = pair

-- the backup fails
abbrev pub backup_fails : Mode → SeenPair → SeenPair
backup_fails Paired pair = in_mode Alone without_backup pair
backup_fails Raising pair = in_mode Alone without_backup pair
backup_fails Alone pair = pair
backup_fails Down pair = in_mode Gone without_backup pair
backup_fails Gone pair = pair

-- the memory leaves
abbrev pub after_take : SeenPair → SeenPair
after_take pair = in_mode Alone without_backup pair

-- the memory of each terminal, in the order of the seats
abbrev pub memory_of : List BackupSeat → List Held
memory_of seats = filter_map (λ seat. seat.memory) seats

-- the memory is back
abbrev pub after_put_back : List Held → SeenPair → SeenPair
after_put_back images pair = in_mode Down (λ seat. put_each images (without_backup seat)) pair

-- the seat of a terminal, if it is of the pair
abbrev pub seat_of : ℕ → SeenPair → Option BackupSeat
seat_of terminal pair = find (is_seat_of terminal) pair.seats

-- there is a seat, and it passes the test
abbrev pub passes : (BackupSeat → Bool) → Option BackupSeat → Bool
passes test None = false
passes test (Some seat) = test seat
