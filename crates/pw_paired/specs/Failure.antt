-- The entries of restarts and failures: RESTART, FAIL TCP, FAIL SERVER and TAKEOVER.
use Rattle.std.specs.Prelude.{◌≡◌, ℕ, zero, suc, ◌+◌, ◌<◌, ◌==◌, ◌&&◌, Bool, true, false, List, [], Option, Some, None, is_none, is_some, unwrap_or, ◌⊎◌, slice_get, if◌then◌else◌}
use Rattle.std.specs.List.{list_any}
use Rattle.pw_code.specs.declared.file.FileCall.{FileCall}
use Rattle.pw_code.specs.declared.unit.Unit as unit
use Rattle.pw_code.specs.declared.verb.Verb.TheVariants as verb
use Rattle.pw_event.specs.declared.event.Cause.{Cause}
use Rattle.pw_event.specs.declared.event.Cause.TheVariants.{Older, Takeover, Server, Redo}
use Rattle.pw_event.specs.declared.script.FailLine.{FailLine}
use Rattle.pw_event.specs.declared.script.FailLine.TheVariants as line
use Rattle.pw_locks.specs.Conflicts.{conflict, is_same_unit}
use Rattle.pw_onecopy.specs.Behaviour.{Behaviour}
use Rattle.pw_onecopy.specs.Path.{PathAnswer}
use Rattle.pw_onecopy.specs.Update.{upd}
use Rattle.pw_paired.specs.Server.{with_job_at, lock_of_job, server_verb}
use Rattle.pw_paired.specs.State.{PairMode, Alone, Raising, Paired, Down, Gone, Awaited, Job, LastEnded, BackupCopy, OpenUnit, State, Term}
use Rattle.pw_paired.specs.Terminal.{CanStep, next_verb}
use Rattle.pw_paired.specs.Units.{attempt_of, leave_units, only, withdraw_attempts, cancel_requests}

-- an open unit of a terminal, as locks name it
abbrev pub unit_named : ℕ → OpenUnit → unit.Unit
unit_named t open_unit = record { terminal = t; number = open_unit.number; birth = open_unit.birth }

-- the lock of the next file operation of a process for one unit conflicts with a lock of the other
pub record Meets (sys : Behaviour) (state : State) (one other : unit.Unit) : Type 0 where
  pub class : ℕ
  pub process : ℕ
  pub job : Job
  pub at_work : (state.classes class).busy process ≡ Some job
  pub works : job.request.terminal ≡ one.terminal
  pub unit_is : job.request.unit ≡ one.number
  pub call : FileCall
  pub asks : server_verb sys class job ≡ verb.File call
  pub meets : list_any
      (λ held. is_same_unit held.unit other && conflict (lock_of_job sys state job call) held)
      state.locks ≡ true

-- OLDER o m: unit m of terminal o is open and older, the pair of t is not Gone, and the lock of the
-- next file operation of a process for one of the two units conflicts with a lock of the other
pub record LegalOlder (sys : Behaviour) (state : State) (t : ℕ) (own : OpenUnit)
    (o m : ℕ) : Type 0 where
  pub older : OpenUnit
  pub is_open : state.units o ≡ Some older
  pub number : older.number ≡ m
  pub is_older : older.birth < own.birth
  pub there : ¬ (state.modes (sys.pair_of t) ≡ Gone)
  pub meets : Meets sys state (unit_named t own) (unit_named o older)
      ⊎ Meets sys state (unit_named o older) (unit_named t own)

-- TAKEOVER p: it is pending, in mode Alone
pub record LegalTakeoverCause (sys : Behaviour) (state : State) (t p : ℕ) : Type 0 where
  pub pending : (state.terms t).pending ≡ Some (Takeover p)
  pub alone : state.modes (sys.pair_of t) ≡ Alone

-- SERVER k: it is pending, and the pair is Paired
pub record LegalServerCause (sys : Behaviour) (state : State) (t k : ℕ) : Type 0 where
  pub pending : (state.terms t).pending ≡ Some (Server k)
  pub paired : state.modes (sys.pair_of t) ≡ Paired

-- REDO: t can step, and its next verb is Redo
pub record LegalRedoCause (sys : Behaviour) (state : State) (t : ℕ) : Type 0 where
  pub can : CanStep sys state t
  pub asks : next_verb sys state t ≡ verb.Redo

-- the cause holds for the running attempt of a terminal's unit
abbrev pub Holds : Behaviour → State → ℕ → OpenUnit → Cause → Type 0
Holds sys state t own (Older o m) = LegalOlder sys state t own o m
Holds sys state t own (Takeover p) = LegalTakeoverCause sys state t p
Holds sys state t own (Server k) = LegalServerCause sys state t k
Holds sys state t own Redo = LegalRedoCause sys state t

-- an attempt of unit n of t runs, and the cause holds for it
pub record IsCaused (sys : Behaviour) (state : State) (t n : ℕ) (cause : Cause)
    (unit : OpenUnit) : Type 0 where
  pub is_open : state.units t ≡ Some unit
  pub number : unit.number ≡ n
  pub start : List PathAnswer
  pub runs : unit.running ≡ Some start
  pub holds : Holds sys state t unit cause

-- RESTART t n cause: an attempt of n runs, it has fewer than MAXTMFRESTARTS recorded restarts, and
-- the cause holds
pub record LegalRestart (sys : Behaviour) (state : State) (t n : ℕ) (cause : Cause) : Type 0 where
  pub unit : OpenUnit
  pub caused : IsCaused sys state t n cause unit
  pub few : unit.restarts < sys.max_restarts t

-- for OLDER the named unit is awaited; another cause leaves the awaited unit as it was
abbrev pub awaited_after : Cause → Option Awaited → Option Awaited
awaited_after (Older o m) awaited = Some (record { terminal = o; number = m })
awaited_after (Takeover p) awaited = awaited
awaited_after (Server k) awaited = awaited
awaited_after Redo awaited = awaited

-- the restart is recorded
abbrev pub with_restart : Cause → Option OpenUnit → Option OpenUnit
with_restart cause None = None
with_restart cause (Some unit) = Some (record unit {
  restarts = unit.restarts + 1;
  awaits = awaited_after cause unit.awaits;
  running = None;
})

-- the path is the start path, and nothing is pending
abbrev pub with_start_path : Option (List PathAnswer) → Term → Term
with_start_path None term = record term { pending = None }
with_start_path (Some start) term = record term { path = start; pending = None }

-- changes are backed out, locks released and the request cancelled; the restart is recorded; the
-- path is the start path
abbrev pub do_restart : Behaviour → ℕ → Cause → State → State
do_restart sys t cause state = record (withdraw_attempts sys (only t) state) {
  units = upd state.units t (with_restart cause (state.units t));
  terms = upd state.terms t (with_start_path (attempt_of (state.units t)) (state.terms t));
}

-- the terminal is of the pair
abbrev pub is_of_pair : Behaviour → ℕ → ℕ → Bool
is_of_pair sys p t = sys.pair_of t == p

-- what the backup of a pair holds, and the messages in flight to it, are gone
abbrev pub without_backup : Behaviour → ℕ → State → State
without_backup sys p state = record state {
  memory = λ t. if is_of_pair sys p t then None else state.memory t;
  flight = λ t. if is_of_pair sys p t then None else state.flight t;
}

-- a terminal whose path is gone: its path is empty, and nothing is pending for it
abbrev pub without_path : Term → Term
without_path term = record term { path = []; pending = None }

-- Gone: memory, messages, paths, pending causes and requests of the pair's terminals go, and all
-- their open units are left
abbrev pub lose_pair : Behaviour → ℕ → State → State
lose_pair sys p state = record (leave_units sys (is_of_pair sys p) (without_backup sys p state)) {
  modes = upd state.modes p Gone;
  terms = λ t. if is_of_pair sys p t then without_path (state.terms t) else state.terms t;
}

-- Down: paths, messages in flight, requests and pending causes of the pair's terminals are gone
abbrev pub lose_primary : Behaviour → ℕ → State → State
lose_primary sys p state = record (cancel_requests (is_of_pair sys p) state) {
  modes = upd state.modes p Down;
  terms = λ t. if is_of_pair sys p t then without_path (state.terms t) else state.terms t;
  flight = λ t. if is_of_pair sys p t then None else state.flight t;
}

-- Alone again: memory and messages in flight are gone
abbrev pub lose_backup : Behaviour → ℕ → State → State
lose_backup sys p state = record (without_backup sys p state) { modes = upd state.modes p Alone }

-- the primary fails in a mode
abbrev pub primary_fails : Behaviour → ℕ → PairMode → State → State
primary_fails sys p Paired state = lose_primary sys p state
primary_fails sys p Raising state = lose_pair sys p state
primary_fails sys p Alone state = lose_pair sys p state
primary_fails sys p Down state = state
primary_fails sys p Gone state = state

-- the backup fails in a mode
abbrev pub backup_fails : Behaviour → ℕ → PairMode → State → State
backup_fails sys p Paired state = lose_backup sys p state
backup_fails sys p Raising state = lose_backup sys p state
backup_fails sys p Alone state = state
backup_fails sys p Down state = lose_pair sys p state
backup_fails sys p Gone state = state

-- line k of the failure lines, counted from 1, if there is one
abbrev pub fail_line : List FailLine → ℕ → Option FailLine
fail_line lines zero = None
fail_line lines (suc k) = slice_get lines k

-- FAIL TCP p PRIMARY k, FAIL TCP p BACKUP k: line k is such a line. (That the line is due is asked
-- in `Legal`.)
pub record LegalFailTcp (sys : Behaviour) (p : ℕ) (primary : Bool) (k : ℕ) : Type 0 where
  pub after : ℕ
  pub names : fail_line sys.script k ≡ Some (line.Tcp p primary after)

-- the member of the pair fails
abbrev pub do_fail_tcp : Behaviour → ℕ → Bool → State → State
do_fail_tcp sys p true state = primary_fails sys p (state.modes p) state
do_fail_tcp sys p false state = backup_fails sys p (state.modes p) state

-- FAIL SERVER c i k: line k is such a line
pub record LegalFailServer (sys : Behaviour) (c i k : ℕ) : Type 0 where
  pub after : ℕ
  pub names : fail_line sys.script k ≡ Some (line.Server c i after)

-- the request at a process, if any, is cancelled, the process is free, and the cause is pending for
-- its terminal
abbrev pub process_fails : ℕ → ℕ → ℕ → Option Job → State → State
process_fails c i k None state = state
process_fails c i k (Some job) state = record state {
  classes = upd state.classes c (with_job_at i None (state.classes c));
  terms = upd state.terms job.request.terminal
      (record (state.terms job.request.terminal) { pending = Some (Server k) });
}

-- the process fails, with what it works on
abbrev pub do_fail_server : ℕ → ℕ → ℕ → State → State
do_fail_server c i k state = process_fails c i k ((state.classes c).busy i) state

-- TAKEOVER p: Down
pub record LegalTakeover (state : State) (p : ℕ) : Type 0 where
  pub down : state.modes p ≡ Down

-- where TMF's last ended unit is the memory's and the end path is there, the path is that;
-- otherwise it is the start path
abbrev pub resumed_path : BackupCopy → LastEnded → List PathAnswer
resumed_path memory last =
    if last.number == memory.unit then unwrap_or memory.end memory.start else memory.start

-- an attempt of the unit runs
abbrev pub runs_unit : ℕ → Option OpenUnit → Bool
runs_unit number None = false
runs_unit number (Some unit) = unit.number == number && is_some unit.running

-- a live terminal behind the takeover: its path is set by the memory and, where an attempt of the
-- memory's unit still runs, the cause TAKEOVER p becomes pending
abbrev pub resume_terminal : ℕ → Option BackupCopy → Option OpenUnit → LastEnded → Term → Term
resume_terminal p None unit last term = term
resume_terminal p (Some memory) unit last term = record term {
  path = resumed_path memory last;
  pending = if runs_unit memory.unit unit then Some (Takeover p) else term.pending;
}

-- the terminal is of the pair and has no ending
abbrev pub is_live_of : Behaviour → ℕ → State → ℕ → Bool
is_live_of sys p state t = is_of_pair sys p t && is_none (state.terms t).ending

-- Alone; each live terminal's path is set, and then the memory of p's terminals is gone
abbrev pub do_takeover : Behaviour → ℕ → State → State
do_takeover sys p state = record state {
  modes = upd state.modes p Alone;
  terms = λ t.
      if is_live_of sys p state t
      then resume_terminal p (state.memory t) (state.units t) (state.ended t) (state.terms t)
      else state.terms t;
  memory = λ t. if is_of_pair sys p t then None else state.memory t;
}
