-- What is kept beside a log stands for the paired state behind it: of each path its length, and where
-- it stands.
use Rattle.std.specs.Prelude.{◌≡◌, ℕ, ◌<◌, not, Bool, true, false, List, [], ◌∷◌, length, slice_get, slice_index_or, Some, is_none}
use Rattle.std.specs.Option.{option_map}
use Rattle.pw_code.specs.declared.system.System.{System}
use Rattle.pw_code.specs.declared.verb.Verb.{Verb}
use Rattle.pw_code.specs.declared.verb.Verb.TheVariants as verb
use Rattle.pw_event.specs.Line.{no_terminal}
use Rattle.pw_event.specs.declared.event.Event.{Event}
use Rattle.pw_event.specs.declared.event.Event.TheVariants as event
use Rattle.pw_onecopy.specs.Behaviour.{Behaviour}
use Rattle.pw_onecopy.specs.Path.{PathAnswer, is_outside, standing}
use Rattle.pw_serial_order.specs.Entries.{Shadow}
use Rattle.pw_serial_order.specs.declared.mark.PathMark.{PathMark}
use Rattle.pw_serial_order.specs.declared.pair.OrderMode as order
use Rattle.pw_serial_order.specs.declared.pair.OrderMode.TheVariants as mode
use Rattle.pw_serial_order.specs.declared.seat.CheckpointInFlight.{CheckpointInFlight}
use Rattle.pw_serial_order.specs.declared.seat.CheckpointInFlight.TheVariants as flight
use Rattle.pw_serial_order.specs.declared.seat.HeldMarks.{HeldMarks}
use Rattle.pw_serial_order.specs.declared.seat.MarkedUnit as order_unit
use Rattle.pw_serial_order.specs.declared.seat.OrderSeat.{OrderSeat}
use Rattle.pw_paired.specs.Serial.{Reading, read_on, reading_starts}
use Rattle.pw_paired.specs.State.{Alone, BackupCopy, Copy, Down, End, Gone, Message, PairMode, OpenUnit, Paired, Raising, Start, State, starting}
use Rattle.pw_paired.specs.Step.{after, effect}
use Rattle.pw_paired.specs.Terminal.{next_verb, path_of}

-- how far a path goes
abbrev pub mark_of : List PathAnswer → PathMark
mark_of path = record {
  answers = length path;
  ended = (standing path).ended;
  within = not (is_outside path);
}

-- an open unit
abbrev pub open_of : OpenUnit → order_unit.MarkedUnit
open_of unit = record { number = unit.number; running = option_map mark_of unit.running }

-- what a backup holds
abbrev pub held_of : BackupCopy → HeldMarks
held_of copy = record {
  unit = copy.unit;
  start = mark_of copy.start;
  end = option_map mark_of copy.end;
}

-- a message in flight
abbrev pub flight_of : Message → CheckpointInFlight
flight_of (Start unit path) = flight.Start unit (mark_of path)
flight_of (Copy unit path) = flight.Start unit (mark_of path)
flight_of (End path) = flight.End (mark_of path)

-- a mode
abbrev pub mode_of : PairMode → order.OrderMode
mode_of Alone = mode.Alone
mode_of Raising = mode.Backed
mode_of Paired = mode.Backed
mode_of Down = mode.Down
mode_of Gone = mode.Gone

-- what is kept of a terminal
abbrev pub seat_of : Behaviour → State → Reading → ℕ → OrderSeat
seat_of sys state reading t = record {
  tcp = sys.pair_of t;
  live = is_none (state.terms t).ending;
  path = mark_of (path_of state t);
  longest = reading.longest t;
  last = (state.ended t).number;
  unit = option_map open_of (state.units t);
  memory = option_map held_of (state.memory t);
  flight = option_map flight_of (state.flight t);
}

-- the reading behind a log, from a state on
abbrev pub reading_from : Behaviour → State → Reading → List Event → Reading
reading_from sys state reading [] = reading
reading_from sys state reading (entry ∷ log) =
    reading_from sys (effect sys state entry) (read_on sys state entry reading) log

-- the reading behind a log
abbrev pub reading_after : Behaviour → List Event → Reading
reading_after sys log = reading_from sys (starting sys) reading_starts log

-- it stands for a state with its reading: each started terminal has its seat, and each pair its mode
pub record ShadowStandsAt (sys : Behaviour) (state : State) (reading : Reading)
    (shadow : Shadow) : Type 0 where
  pub seats : length shadow.seats ≡ sys.terminals
  pub seat : (t : ℕ) → t < sys.terminals
      → slice_get shadow.seats t ≡ Some (seat_of sys state reading t)
  pub modes : length shadow.modes ≡ sys.pairs
  pub mode : (p : ℕ) → p < sys.pairs → slice_get shadow.modes p ≡ Some (mode_of (state.modes p))

-- it stands for what is behind a log
abbrev pub ShadowStands : Behaviour → List Event → Shadow → Type 0
ShadowStands sys log shadow = ShadowStandsAt sys (after sys log) (reading_after sys log) shadow

-- the verb sends
abbrev pub is_send : Verb → Bool
is_send (verb.Send class message) = true
is_send _ = false

-- where the entry is the BEGIN of a unit, the flag tells whether this is one SEND
abbrev pub IsOneSendFlag : Behaviour → State → Event → Bool → Type 0
IsOneSendFlag sys state (event.Begin t n r) one_send = one_send ≡ is_send (next_verb sys state t)
IsOneSendFlag sys state _ one_send = Unit {0}

-- the terminals and pairs are the system's
pub record IsOfSystem (system : System) (sys : Behaviour) : Type 0 where
  pub terminals : sys.terminals ≡ length system.terminals
  pub pairs : sys.pairs ≡ length system.tcps
  pub pair_of : (t : ℕ) → t < length system.terminals
      → (slice_index_or system.terminals t no_terminal).tcp ≡ sys.pair_of t
