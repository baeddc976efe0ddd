-- Attempts of units: which run, and how many are over, by how.
use Rattle.std.specs.Prelude.{◌≡◌, ℕ, ◌+◌, ◌-◌, ◌^◌, ◌<◌, ◌≤◌, ◌*◌, ◌==◌, ◌&&◌, Bool, true, false, List, count_by, length, map, min, is_some, slice_get, Option, Some, None, if◌then◌else◌}
use Rattle.pw_code.specs.declared.system.System.{System}
use Rattle.pw_code.specs.declared.system.TermInfo.{TermInfo}
use Rattle.pw_status.specs.Counters.{more_if}
use Rattle.pw_status.specs.Counts.{is_committed, is_dropped, is_left}
use Rattle.pw_status.specs.Over.{begun_terminal, left_at, over_at}
use Rattle.pw_status.specs.declared.attempts.AttemptSeat.{AttemptSeat}
use Rattle.pw_status.specs.declared.over.Over.{Over}
use Rattle.pw_status.specs.declared.over.Whose.{Whose}
use Rattle.pw_status.specs.declared.over.Whose.TheVariants.{One, Pair}
use Rattle.pw_event.specs.declared.event.Event.{Event}
use Rattle.pw_onecopy.specs.Behaviour.{Behaviour}
use Rattle.pw_serial_order.specs.Entries.{changed_at}
use Rattle.pw_serial_order.specs.Order.{entry_order}
use Rattle.pw_serial_order.specs.declared.block.How as order
use Rattle.pw_serial_order.specs.declared.block.How.TheVariants as how
use Rattle.pw_paired.specs.State.{State}
use Rattle.pw_paired.specs.Step.{after}
use Rattle.pw_paired.specs.Units.{attempt_of}

-- attempts: how many have committed, were dropped and were left, and which run
pub record AttemptsState : Type 0 where
  pub committed : ℕ
  pub dropped : ℕ
  pub left : ℕ
  pub seats : List AttemptSeat

-- before the first entry
abbrev pub first_seat : TermInfo → AttemptSeat
first_seat terminal = record { tcp = terminal.tcp; runs = false }

-- the counts before the first entry of a log of the system
pub record IsStart (system : System) (attempts : AttemptsState) : Type 0 where
  pub committed : attempts.committed ≡ 0
  pub dropped : attempts.dropped ≡ 0
  pub left : attempts.left ≡ 0
  pub seats : attempts.seats ≡ map first_seat system.terminals

-- attempts are over so
abbrev pub commits : order.How → Bool
commits how.Commit = true
commits _ = false

-- attempts are dropped
abbrev pub drops : order.How → Bool
drops how.Dropped = true
drops _ = false

-- the attempts that are over, if any, are over in this way
abbrev pub is_over_by : (order.How → Bool) → Option Over → Bool
is_over_by kind None = false
is_over_by kind (Some over) = kind over.how

-- an attempt runs at a seat, if it is there
abbrev pub runs_at : Option AttemptSeat → ℕ
runs_at None = 0
runs_at (Some seat) = if seat.runs then 1 else 0

-- how many of these attempts run
abbrev pub running_of : List AttemptSeat → Option Whose → ℕ
running_of seats None = 0
running_of seats (Some (One t)) = runs_at (slice_get seats t)
running_of seats (Some (Pair p)) = count_by (λ seat. seat.tcp == p && seat.runs) seats

-- an attempt runs, or none does
abbrev pub with_runs : Bool → AttemptSeat → AttemptSeat
with_runs runs seat = record seat { runs = runs }

-- none does where it is of the pair
abbrev pub stopped_of : ℕ → AttemptSeat → AttemptSeat
stopped_of p seat = if seat.tcp == p then with_runs false seat else seat

-- the attempts of these terminals are over
abbrev pub stopped : Whose → List AttemptSeat → List AttemptSeat
stopped (One t) seats = changed_at t (with_runs false) seats
stopped (Pair p) seats = map (stopped_of p) seats

-- the attempts that are over, if any, run no more
abbrev pub stopped_by : Option Over → List AttemptSeat → List AttemptSeat
stopped_by None seats = seats
stopped_by (Some over) seats = stopped over.whose seats

-- an attempt of a terminal begins, or none does
abbrev pub begun_in : Option ℕ → List AttemptSeat → List AttemptSeat
begun_in None seats = seats
begun_in (Some t) seats = changed_at t (with_runs true) seats

-- behind an entry, which where it is a REPLY or a FAIL TCP ends attempts or not
abbrev pub attempts_behind : Bool → Event → AttemptsState → AttemptsState
attempts_behind ends entry attempts = record {
  committed = more_if (is_over_by commits (over_at ends entry)) attempts.committed;
  dropped = more_if (is_over_by drops (over_at ends entry)) attempts.dropped;
  left = min (attempts.left + running_of attempts.seats (left_at ends entry)) (2 ^ 64 - 1);
  seats = begun_in (begun_terminal entry) (stopped_by (over_at ends entry) attempts.seats);
}

-- an attempt of the terminal runs
abbrev pub is_running : State → ℕ → Bool
is_running state t = is_some (attempt_of (state.units t))

-- the seat of a terminal
abbrev pub seat_of : Behaviour → State → ℕ → AttemptSeat
seat_of sys state t = record { tcp = sys.pair_of t; runs = is_running state t }

-- the seats are those of the terminals in a state
pub record AreSeatsOf (sys : Behaviour) (state : State) (seats : List AttemptSeat) : Type 0 where
  pub count : length seats ≡ sys.terminals
  pub seat : (t : ℕ) → t < sys.terminals → slice_get seats t ≡ Some (seat_of sys state t)

-- the counts are those of the log, with room for more
pub record AreAttemptsOf (sys : Behaviour) (log : List Event) (attempts : AttemptsState) : Type 0 where
  pub committed : attempts.committed ≡ count_by is_committed (entry_order sys log)
  pub dropped : attempts.dropped ≡ count_by is_dropped (entry_order sys log)
  pub left : attempts.left ≡ count_by is_left (entry_order sys log)
  pub few_committed : attempts.committed ≤ length log
  pub few_dropped : attempts.dropped ≤ length log
  pub few_left : attempts.left ≤ 128 * length log
  pub seats : AreSeatsOf sys (after sys log) attempts.seats
