-- What is done to the seats of some terminals, and to what is kept of them.
use Rattle.std.specs.Prelude.{ℕ, Bool, true, false, List, [], ◌∷◌, Option, Some, None, is_none, slice_set, if◌then◌else◌}
use Rattle.pw_event.specs.declared.event.Cause.TheVariants.{Takeover}
use Rattle.pw_event.specs.declared.event.Ending.{Ending}
use Rattle.pw_event.specs.declared.event.Ending.TheVariants.{Stopped, NoEntries, Fault, Suspended, Lost}
use Rattle.pw_world_store.specs.Keeps.{seat_at}
use Rattle.pw_world_store.specs.declared.pieces.TerminalLoss.{TerminalLoss}
use Rattle.pw_world_store.specs.declared.pieces.TerminalLoss.TheVariants.{Nothing, Paths, Units}
use Rattle.pw_world_state.specs.Changes.{at_each, cancel, leave, without_path, without_unit}
use Rattle.pw_world_state.specs.Kept.{Kept, KeptTerminal}
use Rattle.pw_pair.specs.Pairs.{SeenPair, seat_of}
use Rattle.pw_pair.specs.Takeover.{Resumption, resumption_in, resumption_of}
use Rattle.pw_pair.specs.declared.mode.Mode.{Mode}
use Rattle.pw_pair.specs.declared.mode.Mode.TheVariants.{Alone, Raising, Paired, Down, Gone}
use Rattle.pw_pair.specs.declared.resumed.Resumed.{Resumed}
use Rattle.pw_world_store.specs.Seats.{runs_unit}
use Rattle.pw_world_store.specs.declared.seat.Seat.{Seat}
use Rattle.pw_tmf.specs.Leaving.{open_units}
use Rattle.pw_tmf.specs.Told.{Told}
use Rattle.pw_tmf.specs.Units.{all_backed_out}

-- the seats of these terminals are changed so
abbrev pub changed_each : (ℕ → Seat → Seat) → List ℕ → List Seat → List Seat
changed_each change [] seats = seats
changed_each change (t ∷ terminals) seats =
    changed_each change terminals (slice_set seats t (change t (seat_at seats t)))

-- ---- a terminal

-- it has this ending
abbrev pub with_ending : Ending → KeptTerminal → KeptTerminal
with_ending ending own = record own { pending = None; ending = Some ending }

-- its open unit is left at an ending
abbrev pub is_left : Ending → Bool
is_left Stopped = false
is_left NoEntries = true
is_left (Fault x) = true
is_left (Suspended cause) = true
is_left Lost = false

-- ---- units

-- the open units of these terminals end, and their changes are put back
abbrev pub without_units : List ℕ → Kept → Kept
without_units terminals kept = record (at_each terminals (λ t. without_unit) kept) {
  disc = all_backed_out true kept.disc (open_units kept.disc terminals);
}

-- ---- a member of a pair fails

-- what terminals lose where a member of their pair fails in a mode
abbrev pub loss_of : Bool → Mode → TerminalLoss
loss_of true Paired = Paths
loss_of true Raising = Units
loss_of true Alone = Units
loss_of true Down = Nothing
loss_of true Gone = Nothing
loss_of false Paired = Nothing
loss_of false Raising = Nothing
loss_of false Alone = Nothing
loss_of false Down = Units
loss_of false Gone = Nothing

-- terminals lose this
abbrev pub lost : TerminalLoss → List ℕ → Kept → Kept
lost Nothing terminals kept = kept
lost Paths terminals kept = at_each terminals (λ t. without_path) (cancel terminals kept)
lost Units terminals kept = at_each terminals (λ t. without_path) (leave terminals kept)

-- ---- a takeover

-- the unit and the context with which a terminal goes on, where the pair and the disc are these
abbrev pub resumption_at : SeenPair → Told → ℕ → Option Resumption
resumption_at pair disc t = resumption_in (seat_of t pair) (disc.ended t).number

-- a live terminal goes on so
abbrev pub gone_on : ℕ → Option Resumption → Seat → Seat
gone_on p None seat = seat
gone_on p (Some (t, (unit, context))) seat =
    if is_none seat.ending
    then record seat {
      context = context;
      ready = None;
      pending = if runs_unit unit seat then Some (Takeover p) else seat.pending;
    }
    else seat

-- each of them goes on so, the last one first
abbrev pub gone_each : ℕ → List Resumed → List Seat → List Seat
gone_each p [] seats = seats
gone_each p (one ∷ resumed) seats =
    let others = gone_each p resumed seats in
    slice_set others one.terminal
    (gone_on p (Some (resumption_of one)) (seat_at others one.terminal))
