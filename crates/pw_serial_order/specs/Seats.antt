-- What an entry makes of what is kept of its terminal.
use Rattle.std.specs.Prelude.{ℕ, ◌+◌, ◌==◌, ◌&&◌, Bool, true, false, max, nat_lt, Option, Some, None, is_none, unwrap_or, if◌then◌else◌}
use Rattle.pw_serial_order.specs.Marks.{mark_begun, mark_closed, mark_more, mark_replied, mark_start}
use Rattle.pw_serial_order.specs.declared.mark.PathMark.{PathMark}
use Rattle.pw_serial_order.specs.declared.seat.CheckpointInFlight.{CheckpointInFlight}
use Rattle.pw_serial_order.specs.declared.seat.CheckpointInFlight.TheVariants.{Start, End}
use Rattle.pw_serial_order.specs.declared.seat.HeldMarks.{HeldMarks}
use Rattle.pw_serial_order.specs.declared.seat.MarkedUnit.{MarkedUnit}
use Rattle.pw_serial_order.specs.declared.seat.OrderSeat.{OrderSeat}

-- a terminal of this pair, before the first entry
abbrev pub new_seat : ℕ → OrderSeat
new_seat tcp = record {
  tcp = tcp;
  live = true;
  path = mark_start;
  longest = 0;
  last = 0;
  unit = None;
  memory = None;
  flight = None;
}

-- the start path of the attempt that runs, if one does
abbrev pub running_of : Option MarkedUnit → Option PathMark
running_of None = None
running_of (Some unit) = unit.running

-- no attempt runs
abbrev pub is_idle : OrderSeat → Bool
is_idle seat = is_none (running_of seat.unit)

-- one more answer makes the path longer than every path before while no attempt ran, and none runs
abbrev pub is_new : OrderSeat → Bool
is_new seat = is_idle seat && nat_lt seat.longest (seat.path.answers + 1)

-- it is live, and its backup lacks it
abbrev pub is_lacking : OrderSeat → Bool
is_lacking seat = seat.live && is_none seat.memory

-- the path counts among the longest where no attempt runs
abbrev pub rested : OrderSeat → OrderSeat
rested seat = record seat {
  longest = if is_idle seat then max seat.longest seat.path.answers else seat.longest;
}

-- another path
abbrev pub at_path : PathMark → OrderSeat → OrderSeat
at_path path seat = rested (record seat { path = path })

-- an answer that neither begins nor ends a unit
abbrev pub path_answered : OrderSeat → OrderSeat
path_answered seat = at_path (mark_more seat.path) seat

-- the kept reply again
abbrev pub again : OrderSeat → OrderSeat
again seat = at_path (mark_replied seat.path) seat

-- a path is in flight, with the number of its unit
abbrev pub with_start : PathMark → OrderSeat → OrderSeat
with_start path seat = record seat { flight = Some (Start (path.ended + 1) path) }

-- before a unit
abbrev pub check_start : OrderSeat → OrderSeat
check_start seat = with_start seat.path seat

-- behind a unit
abbrev pub check_end : OrderSeat → OrderSeat
check_end seat = record seat { flight = Some (End (mark_closed seat.path)) }

-- to a new backup
abbrev pub check_copy : OrderSeat → OrderSeat
check_copy seat = with_start (unwrap_or (running_of seat.unit) seat.path) seat

-- what is held, with an end path
abbrev pub with_end : PathMark → Option HeldMarks → Option HeldMarks
with_end path None = None
with_end path (Some held) = Some (record held { end = Some path })

-- what is held behind a message
abbrev pub taken_in : Option CheckpointInFlight → Option HeldMarks → Option HeldMarks
taken_in None memory = memory
taken_in (Some (Start unit path)) memory =
    Some (record { unit = unit; start = path; end = None })
taken_in (Some (End path)) memory = with_end path memory

-- the message is taken in
abbrev pub applied : OrderSeat → OrderSeat
applied seat = record seat { memory = taken_in seat.flight seat.memory; flight = None }

-- the open unit, or a new one of this number, with an attempt from this path
abbrev pub with_attempt : ℕ → PathMark → Option MarkedUnit → MarkedUnit
with_attempt number path None = record { number = number; running = Some path }
with_attempt number path (Some unit) = record unit { running = Some path }

-- an attempt begins, of one SEND or with Begun
abbrev pub attempt_begun : ℕ → Bool → OrderSeat → OrderSeat
attempt_begun number one_send seat = record seat {
  unit = Some (with_attempt number seat.path seat.unit);
  path = if one_send then seat.path else mark_begun seat.path;
}

-- the unit of this number ends, with an answer
abbrev pub unit_closed : ℕ → OrderSeat → OrderSeat
unit_closed number seat = at_path (mark_closed seat.path) (record seat { unit = None; last = number })

-- a reply, with which a unit ends that is one SEND
abbrev pub send_replied : OrderSeat → OrderSeat
send_replied seat = if seat.path.within then path_answered seat else unit_closed (seat.path.ended + 1) seat

-- the unit without its attempt
abbrev pub without_attempt : Option MarkedUnit → Option MarkedUnit
without_attempt None = None
without_attempt (Some unit) = Some (record unit { running = None })

-- the attempt goes back to its start
abbrev pub attempt_restarted : OrderSeat → OrderSeat
attempt_restarted seat =
    at_path (unwrap_or (running_of seat.unit) seat.path)
    (record seat { unit = without_attempt seat.unit })

-- the last ended unit where the open one, if any, is left
abbrev pub last_left : Option MarkedUnit → ℕ → ℕ
last_left None last = last
last_left (Some unit) last = unit.number

-- the open unit, if any, is left
abbrev pub left : OrderSeat → OrderSeat
left seat = record seat { unit = None; last = last_left seat.unit seat.last }

-- nothing is held and in flight
abbrev pub without_backup : OrderSeat → OrderSeat
without_backup seat = record seat { memory = None; flight = None }

-- nothing is held
abbrev pub without_memory : OrderSeat → OrderSeat
without_memory seat = record seat { memory = None }

-- the terminal ends, with its open unit left or without one
abbrev pub done : Bool → OrderSeat → OrderSeat
done leaves seat =
    rested (record (without_backup (if leaves then left seat else seat)) { live = false })

-- the pair is lost
abbrev pub lost : OrderSeat → OrderSeat
lost seat = record (without_backup (left seat)) { path = mark_start }

-- the primary is lost, and its partner can take over
abbrev pub down : OrderSeat → OrderSeat
down seat = record seat { path = mark_start; flight = None }

-- where TMF's last ended unit is the one that is held and the end path is there, the path is that
abbrev pub path_held : ℕ → HeldMarks → PathMark
path_held last held = if last == held.unit then unwrap_or held.end held.start else held.start

-- the path at which a takeover goes on
abbrev pub path_in : ℕ → PathMark → Option HeldMarks → PathMark
path_in last path None = path
path_in last path (Some held) = path_held last held

-- the path at which a takeover goes on with a terminal
abbrev pub resumed_path : OrderSeat → PathMark
resumed_path seat = path_in seat.last seat.path seat.memory

-- the backup takes over
abbrev pub resumed : OrderSeat → OrderSeat
resumed seat =
    without_memory (if seat.live then at_path (resumed_path seat) seat else seat)
