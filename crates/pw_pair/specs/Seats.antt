-- A terminal's place in its pair: what the backup holds of it, and its message in flight.
use Rattle.std.specs.Prelude.{◌≡◌, ℕ, ◌==◌, ◌&&◌, Bool, true, false, not, List, [], ◌∷◌, ◌++◌, map, Option, Some, None, is_some, if◌then◌else◌}
use Rattle.std.specs.List.{list_any}
use Rattle.std.specs.Str.{bytes_eq}
use Rattle.pw_pair.specs.Bodies.{body_of, fits_held, image_in, is_image, is_whole}
use Rattle.pw_pair.specs.declared.backup.Held.{Held}
use Rattle.pw_pair.specs.declared.message.Body.TheVariants.{Whole}
use Rattle.pw_pair.specs.declared.message.Carried.{Carried}
use Rattle.pw_pair.specs.declared.message.CheckKind.{CheckKind}
use Rattle.pw_pair.specs.declared.message.CheckKind.TheVariants.{Start, End, Copy}
use Rattle.pw_pair.specs.declared.seat.Flight.{Flight}
use Rattle.pw_pair.specs.declared.seat.BackupSeat.{BackupSeat}

-- the start image that is held
abbrev pub start_of : Option Held → Option (List ℕ)
start_of None = None
start_of (Some held) = Some held.start

-- a terminal of a new pair
abbrev pub new_seat : ℕ → BackupSeat
new_seat terminal = record { terminal = terminal; dropped = false; memory = None; flight = None }

-- the seat of a terminal
abbrev pub is_seat_of : ℕ → BackupSeat → Bool
is_seat_of terminal seat = seat.terminal == terminal

-- the seats with one for the terminal, where there was none
abbrev pub with_terminal : List BackupSeat → ℕ → List BackupSeat
with_terminal seats terminal =
    if list_any (is_seat_of terminal) seats then seats else seats ++ new_seat terminal ∷ []

-- the seats of some terminals, one for each
abbrev pub seats_with : List BackupSeat → List ℕ → List BackupSeat
seats_with seats [] = seats
seats_with seats (terminal ∷ terminals) = seats_with (with_terminal seats terminal) terminals

-- the seat of the terminal, changed so; the others stay
abbrev pub at_terminal : ℕ → (BackupSeat → BackupSeat) → List BackupSeat → List BackupSeat
at_terminal terminal change seats =
    map (λ seat. if is_seat_of terminal seat then change seat else seat) seats

-- a message is in flight, not built
abbrev pub with_carried : Carried → BackupSeat → BackupSeat
with_carried message seat =
    record seat { flight = Some (record { message = message; built = false }) }

-- a message in flight, whole or as changes against the start image that is held
abbrev pub with_message : CheckKind → ℕ → List ℕ → BackupSeat → BackupSeat
with_message kind unit image seat =
    with_carried (record { kind = kind; unit = unit; body = body_of (start_of seat.memory) image })
    seat

-- a memory with an end image
abbrev pub with_end : List ℕ → Option Held → Option Held
with_end image None = None
with_end image (Some held) = Some (record held { end = Some image })

-- START and COPY replace the memory and clear its end image; END sets its end image
abbrev pub with_kind : CheckKind → ℕ → ℕ → List ℕ → Option Held → Option Held
with_kind Start terminal unit image memory =
    Some (record { terminal = terminal; unit = unit; start = image; end = None })
with_kind Copy terminal unit image memory =
    Some (record { terminal = terminal; unit = unit; start = image; end = None })
with_kind End terminal unit image memory = with_end image memory

-- the memory with the message in flight taken in
abbrev pub taken_in : ℕ → Option Flight → Option Held → Option Held
taken_in terminal None memory = memory
taken_in terminal (Some flight) memory =
    with_kind flight.message.kind terminal flight.message.unit
    (image_in (start_of memory) flight.message.body) memory

-- the message in flight is taken in
abbrev pub applied : BackupSeat → BackupSeat
applied seat =
    record seat { memory = taken_in seat.terminal seat.flight seat.memory; flight = None }

-- the message in flight carries the whole image that it stands for
abbrev pub with_whole : Option (List ℕ) → Option Flight → Option Flight
with_whole start None = None
with_whole start (Some flight) = Some (record flight {
  message = record flight.message { body = Whole (image_in start flight.message.body) };
  built = true;
})

-- the message in flight is built
abbrev pub built : BackupSeat → BackupSeat
built seat = record seat { flight = with_whole (start_of seat.memory) seat.flight }

-- nothing is in flight and in memory
abbrev pub without_backup : BackupSeat → BackupSeat
without_backup seat = record seat { memory = None; flight = None }

-- nothing is in flight
abbrev pub without_flight : BackupSeat → BackupSeat
without_flight seat = record seat { flight = None }

-- the terminal has ended
abbrev pub dropped : BackupSeat → BackupSeat
dropped seat = record seat { dropped = true; memory = None; flight = None }

-- the terminal is live, and the memory lacks it
abbrev pub is_lacking : BackupSeat → Bool
is_lacking seat = not seat.dropped && not (is_some seat.memory)

-- the memory has the terminal
abbrev pub has_memory : BackupSeat → Bool
has_memory seat = is_some seat.memory

-- what is held of the terminal is in memory, and nothing in flight
abbrev pub with_held : Held → BackupSeat → BackupSeat
with_held held seat = record seat { memory = Some held; flight = None }

-- what is held of a terminal is put into its seat
abbrev pub put_held : Held → BackupSeat → BackupSeat
put_held held seat =
    if is_seat_of held.terminal seat then with_held held seat else seat

-- each is put into its seat
abbrev pub put_each : List Held → BackupSeat → BackupSeat
put_each [] seat = seat
put_each (held ∷ images) seat = put_held held (put_each images seat)

-- Tests of a seat's message.

-- a message is in flight, and its body is whole
abbrev pub flies_whole : Option Flight → Bool
flies_whole None = false
flies_whole (Some flight) = is_whole flight.message.body

-- a message is in flight
abbrev pub is_flying : BackupSeat → Bool
is_flying seat = is_some seat.flight

-- a message is in flight, and it is built
abbrev pub flies_built : Option Flight → Bool
flies_built None = false
flies_built (Some flight) = flight.built

-- the terminal's message is in flight and built
abbrev pub is_built : BackupSeat → Bool
is_built seat = flies_built seat.flight

-- a message is in flight, and it is not built
abbrev pub flies_waiting : Option Flight → Bool
flies_waiting None = false
flies_waiting (Some flight) = not flight.built

-- the terminal's message is in flight and not built
abbrev pub is_waiting : BackupSeat → Bool
is_waiting seat = flies_waiting seat.flight

-- the memory has this unit and start image
abbrev pub has_start : ℕ → List ℕ → Option Held → Bool
has_start unit image None = false
has_start unit image (Some held) = held.unit == unit && bytes_eq held.start image

-- the memory has this unit and start image of the terminal
abbrev pub holds_start : ℕ → List ℕ → BackupSeat → Bool
holds_start unit image seat = has_start unit image seat.memory

-- the memory has this end image
abbrev pub is_memory_end_image : List ℕ → Option (List ℕ) → Bool
is_memory_end_image image None = false
is_memory_end_image image (Some end) = bytes_eq end image

-- what is held, if anything is, has this end image
abbrev pub has_end : List ℕ → Option Held → Bool
has_end image None = false
has_end image (Some held) = is_memory_end_image image held.end

-- the memory has this end image of the terminal
abbrev pub holds_end : List ℕ → BackupSeat → Bool
holds_end image seat = has_end image seat.memory

-- the message in flight stands for this image
abbrev pub flies_as : Option (List ℕ) → List ℕ → Option Flight → Type 0
flies_as start image None = Unit {0}
flies_as start image (Some flight) = image_in start flight.message.body ≡ image

-- the terminal's message in flight stands for this image
abbrev pub stands_for : List ℕ → BackupSeat → Type 0
stands_for image seat = flies_as (start_of seat.memory) image seat.flight

-- What a seat keeps.

-- what is held is of the terminal and in the image format
abbrev pub end_is_image : Option (List ℕ) → Bool
end_is_image None = true
end_is_image (Some image) = is_image image

-- what is held is in the image format
abbrev pub held_is_sound : Held → Bool
held_is_sound held = is_image held.start && end_is_image held.end

-- what is held, if anything is, is of the terminal and in the image format
abbrev pub memory_is_sound : ℕ → Option Held → Bool
memory_is_sound terminal None = true
memory_is_sound terminal (Some held) = held.terminal == terminal && held_is_sound held

-- a built message is whole; changes fit the start image that is held; and what the message stands for
-- is in the image format
abbrev pub flight_is_sound : Option (List ℕ) → Option Flight → Bool
flight_is_sound start None = true
flight_is_sound start (Some flight) =
    fits_held start flight.message.body
    && (is_image (image_in start flight.message.body)
    && (if flight.built then is_whole flight.message.body else true))

-- what is held of the terminal, if anything is, names it and is in the image format
abbrev pub has_own_memory : BackupSeat → Bool
has_own_memory seat = memory_is_sound seat.terminal seat.memory

-- what a seat keeps: its memory and its message in flight are sound
abbrev pub is_sound : BackupSeat → Bool
is_sound seat =
    memory_is_sound seat.terminal seat.memory && flight_is_sound (start_of seat.memory) seat.flight
