-- What is done to a terminal's seat.
use Rattle.std.specs.Prelude.{◌+◌, ◌==◌, ◌&&◌, Bool, false, ℕ, Option, Some, None, is_some}
use Rattle.pw_code.specs.declared.context.Context.{Context}
use Rattle.pw_code.specs.declared.unit.Unit.{Unit}
use Rattle.pw_code.specs.declared.verb.Verb.{Verb}
use Rattle.pw_event.specs.declared.event.Cause.{Cause}
use Rattle.pw_event.specs.declared.event.Cause.TheVariants.{Older, Takeover, Server, Redo}
use Rattle.pw_event.specs.declared.event.Ending.{Ending}
use Rattle.pw_world_store.specs.declared.seat.AwaitedUnit.{AwaitedUnit}
use Rattle.pw_world_store.specs.declared.seat.Ready.{Ready}
use Rattle.pw_world_store.specs.declared.seat.Seat.{Seat}

-- before the first entry
abbrev pub first_seat : Context → Seat
first_seat context = record {
  context = Some context;
  ready = None;
  start = None;
  unit = None;
  restarts = 0;
  awaits = None;
  pending = None;
  ending = None;
}

-- an attempt of the unit of this number runs
abbrev pub runs_numbered : ℕ → Bool → Option Unit → Bool
runs_numbered number runs None = false
runs_numbered number runs (Some unit) = unit.number == number && runs

-- an attempt of the unit of this number runs
abbrev pub runs_unit : ℕ → Seat → Bool
runs_unit number seat = runs_numbered number (is_some seat.start) seat.unit

-- its program stands at this verb
abbrev pub ready_at : Verb → Context → Seat → Seat
ready_at verb context seat = record seat { ready = Some (record { verb = verb; context = context }) }

-- its program stands at its last answer again
abbrev pub seat_before_verb : Seat → Seat
seat_before_verb seat = record seat { ready = None }

-- it goes on with this context
abbrev pub seat_answered : Context → Seat → Seat
seat_answered context seat = record seat { context = Some context; ready = None }

-- an attempt of the unit runs, from this context
abbrev pub started : Unit → Context → Seat → Seat
started unit start seat = record seat { start = Some start; unit = Some unit }

-- no unit of it is open
abbrev pub seat_unit_over : Seat → Seat
seat_unit_over seat = record seat { start = None; unit = None; restarts = 0; awaits = None }

-- for OLDER the named unit is awaited
abbrev pub awaiting : Cause → Option AwaitedUnit → Option AwaitedUnit
awaiting (Older o m) awaits = Some (record { terminal = o; number = m })
awaiting (Takeover p) awaits = awaits
awaiting (Server k) awaits = awaits
awaiting Redo awaits = awaits

-- it is at its start again
abbrev pub seat_restarted : Cause → Seat → Seat
seat_restarted cause seat = record seat {
  context = seat.start;
  ready = None;
  start = None;
  restarts = seat.restarts + 1;
  awaits = awaiting cause seat.awaits;
  pending = None;
}

-- its path is gone
abbrev pub without_path : Seat → Seat
without_path seat = record seat { context = None; ready = None; pending = None }

-- the first of two that is there
abbrev pub first_cause : Option Cause → Option Cause → Option Cause
first_cause None other = other
first_cause (Some cause) other = Some cause

-- it goes on with this context, and the cause, if there is one, is pending
abbrev pub resumed : Context → Option Cause → Seat → Seat
resumed context cause seat =
    record seat { context = Some context; ready = None; pending = first_cause cause seat.pending }

-- it has this ending
abbrev pub seat_ended : Ending → Seat → Seat
seat_ended ending seat = record seat { pending = None; ending = Some ending }
