-- The arguments of the next step, as they are in a state of the paired system.
use Rattle.std.specs.Prelude.{◌≡◌, ◌≢◌, ℕ, ◌≤◌, nat_lt, Bool, true, not, Option, Some, None, is_some}
use Rattle.pw_event.specs.declared.event.Cause.{Cause}
use Rattle.pw_event.specs.declared.event.Cause.TheVariants as cause
use Rattle.pw_laws.specs.legal.Terminals.{holds_end, holds_start, is_over}
use Rattle.pw_laws.specs.legal.Values.{is_paired}
use Rattle.pw_laws.specs.legal.Verbs.{asks_send}
use Rattle.pw_onecopy.specs.Attempt.{BeginsUnit}
use Rattle.pw_onecopy.specs.Behaviour.{Behaviour}
use Rattle.pw_onecopy.specs.Path.{entries_on, is_outside, unit_number}
use Rattle.pw_paired.specs.State.{Alone, Down, Gone, PairMode, Paired, Raising, OpenUnit, State}
use Rattle.pw_paired.specs.Terminal.{HoldsStart, IsIdle, awaited_of, closed_path, next_verb, path_of}
use Rattle.pw_paired.specs.Units.{attempt_of, is_out, restarts_of}
use Rattle.pw_tcp.specs.NextStep.{BeginsAnew, MayAsk, RunsWhere, next_step_of}
use Rattle.pw_tcp.specs.declared.step.TcpStep.{TcpStep}
use Rattle.pw_tcp.specs.declared.terminal.Note.{Note}
use Rattle.pw_tcp.specs.declared.terminal.Pending.{Pending}
use Rattle.pw_tcp.specs.declared.terminal.Pending.TheVariants as pending
use Rattle.pw_tcp.specs.declared.terminal.Terminal.{Terminal}

-- a cause that is pending in the paired system: TAKEOVER, or else SERVER
abbrev pub pending_of : Option Cause → Pending
pending_of None = pending.Nothing
pending_of (Some (cause.Takeover p)) = pending.Takeover
pending_of (Some _) = pending.Server

-- the path of the terminal is in a transaction
abbrev pub is_within : State → ℕ → Bool
is_within state t = not (is_outside (path_of state t))

-- the terminal's unit
abbrev pub terminal_of : Behaviour → State → ℕ → Terminal
terminal_of sys state t = record {
  unit = unit_number (path_of state t);
  running = is_some (attempt_of (state.units t));
  restarts = restarts_of (state.units t);
  awaited_open = not (is_over state.ended (awaited_of (state.units t)));
  pending = pending_of (state.terms t).pending;
  request_out = is_out sys state t;
  entries_left = nat_lt (entries_on (path_of state t)) (sys.entries t);
}

-- what its pair and TMF have of it
abbrev pub note_of : Behaviour → State → ℕ → Note
note_of sys state t = record {
  paired = is_paired (state.modes (sys.pair_of t));
  in_flight = is_some (state.flight t);
  start_held = holds_start (state.memory t) (unit_number (path_of state t)) (path_of state t);
  end_held = holds_end (state.memory t) (closed_path sys state t);
  ended = (state.ended t).number;
}

-- the terminal's next step in a state
abbrev pub next_step_in : Behaviour → State → ℕ → TcpStep
next_step_in sys state t =
    next_step_of (terminal_of sys state t) (next_verb sys state t) (is_within state t)
    (note_of sys state t) (sys.max_restarts t)

-- the next step may be asked for in the state
pub record MayStep (sys : Behaviour) (state : State) (t : ℕ) : Type 0 where
  pub asks : MayAsk (next_verb sys state t)
  pub few : restarts_of (state.units t) ≤ sys.max_restarts t
  pub runs : RunsWhere (terminal_of sys state t) (next_verb sys state t) (is_within state t)
  pub begins : BeginsAnew (terminal_of sys state t) (next_verb sys state t) (note_of sys state t)

-- the cause may be pending: TAKEOVER where the pair is Alone, and SERVER
abbrev pub MayPend : Behaviour → State → ℕ → Cause → Type 0
MayPend sys state t (cause.Takeover p) = state.modes (sys.pair_of t) ≡ Alone
MayPend sys state t (cause.Server k) = Unit {0}
MayPend sys state t _ = ⊥

-- a unit that awaits one that is open waits at its start, which its backup holds
pub record WaitsAtStart (sys : Behaviour) (state : State) (t : ℕ) : Type 0 where
  pub idle : IsIdle state t
  pub begins : BeginsUnit (next_verb sys state t) (path_of state t)
  pub held : HoldsStart (state.memory t) (unit_number (path_of state t)) (path_of state t)

-- The open unit of the terminal is that of its path, and has not ended.
pub record IsOfPath (state : State) (t : ℕ) (own : OpenUnit) : Type 0 where
  pub number : own.number ≡ unit_number (path_of state t)
  pub open_still : (state.ended t).number ≢ own.number

-- What fits together of a terminal: no more entry lines are on its path than there are; a pending
-- cause is one that may be; where the pair is Paired or a cause is pending, its open unit is that of
-- its path; a request that is out is one that its program asks for; and where the pair is Paired, a
-- unit whose awaited unit is open waits at its start.
pub record FitsTogether (sys : Behaviour) (state : State) (t : ℕ) : Type 0 where
  pub entries : entries_on (path_of state t) ≤ sys.entries t
  pub pending : (why : Cause) → (state.terms t).pending ≡ Some why → MayPend sys state t why
  pub paired_unit : (own : OpenUnit) → state.units t ≡ Some own
      → state.modes (sys.pair_of t) ≡ Paired → IsOfPath state t own
  pub caused_unit : (own : OpenUnit) (why : Cause) → state.units t ≡ Some own
      → (state.terms t).pending ≡ Some why → IsOfPath state t own
  pub out : is_out sys state t ≡ true → asks_send (next_verb sys state t) ≡ true
  pub awaited : state.modes (sys.pair_of t) ≡ Paired
      → is_over state.ended (awaited_of (state.units t)) ≢ true → WaitsAtStart sys state t

-- a member of the pair works
abbrev pub HasMember : PairMode → Type 0
HasMember Alone = Unit {0}
HasMember Raising = Unit {0}
HasMember Paired = Unit {0}
HasMember Down = ⊥
HasMember Gone = ⊥
