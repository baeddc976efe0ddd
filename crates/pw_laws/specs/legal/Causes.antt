-- Whether a cause holds and a restart is legal, as tests that compute. A process is looked for
-- among the processes of the system's classes; in a run no other one works.
use Rattle.std.specs.Prelude.{ℕ, ◌+◌, ◌<◌, ◌≤◌, ◌≡◌, ◌==◌, ◌&&◌, ◌||◌, nat_lt, Bool, true, false, not, Some, is_some}
use Rattle.std.specs.List.{list_any}
use Rattle.pw_code.specs.declared.file.FileCall.{FileCall}
use Rattle.pw_code.specs.declared.unit.Unit as unit
use Rattle.pw_event.specs.declared.event.Cause.{Cause}
use Rattle.pw_event.specs.declared.event.Cause.TheVariants.{Older, Takeover, Server, Redo}
use Rattle.pw_locks.specs.Conflicts.{conflict, is_same_unit}
use Rattle.pw_locks.specs.declared.lock.Lock.{Lock}
use Rattle.pw_paired.specs.Failure.{unit_named}
use Rattle.pw_paired.specs.Serial.{is_gone}
use Rattle.pw_paired.specs.Server.{lock_of_job, server_verb}
use Rattle.pw_paired.specs.State.{Job, OpenUnit, State}
use Rattle.pw_onecopy.specs.Behaviour.{Behaviour}
use Rattle.pw_paired.specs.Terminal.{next_verb}
use Rattle.pw_paired.specs.Units.{any_below}
use Rattle.pw_laws.specs.legal.Terminals.{can_step}
use Rattle.pw_laws.specs.legal.Values.{is_alone, is_paired, is_server_by, is_takeover_by, some_with}
use Rattle.pw_laws.specs.legal.Verbs.{asks_file, asks_redo}

-- Only the processes of the system's classes work; those of a class count from 1.
pub record JobsAreThere (sys : Behaviour) (state : State) : Type 0 where
  pub classes : (c i : ℕ) (job : Job) → (state.classes c).busy i ≡ Some job → c < sys.classes
  pub processes : (c i : ℕ) (job : Job) → (state.classes c).busy i ≡ Some job
      → (1 ≤ i) × (i ≤ sys.processes c)

-- the lock of the call conflicts with a lock of the other unit
abbrev pub call_meets : Behaviour → State → unit.Unit → Job → FileCall → Bool
call_meets sys state other job call =
    let lock : Lock = lock_of_job sys state job call in
    list_any (λ held. is_same_unit held.unit other && conflict lock held) state.locks

-- the job is of one unit, and the lock of its next operation conflicts with a lock of the other
abbrev pub job_meets : Behaviour → State → unit.Unit → unit.Unit → ℕ → Job → Bool
job_meets sys state one other class job =
    job.request.terminal == one.terminal && (job.request.unit == one.number
    && asks_file (call_meets sys state other job) (server_verb sys class job))

-- the lock of the next operation of a process for one unit conflicts with a lock of the other
unfoldable pub meets : Behaviour → State → unit.Unit → unit.Unit → Bool
meets sys state one other =
    any_below sys.classes (λ class. any_below (sys.processes class)
    (λ i. some_with (job_meets sys state one other class) ((state.classes class).busy (i + 1))))

-- the cause OLDER o m holds
abbrev pub is_legal_older : Behaviour → State → ℕ → OpenUnit → ℕ → ℕ → Bool
is_legal_older sys state t own o m =
    some_with (λ older. older.number == m && (nat_lt older.birth own.birth
    && (not (is_gone (state.modes (sys.pair_of t)))
    && (meets sys state (unit_named t own) (unit_named o older)
    || meets sys state (unit_named o older) (unit_named t own)))))
    (state.units o)

-- the cause holds for the running attempt of a terminal's unit
abbrev pub cause_holds : Behaviour → State → ℕ → OpenUnit → Cause → Bool
cause_holds sys state t own (Older o m) = is_legal_older sys state t own o m
cause_holds sys state t own (Takeover p) =
    some_with (is_takeover_by p) (state.terms t).pending && is_alone (state.modes (sys.pair_of t))
cause_holds sys state t own (Server k) =
    some_with (is_server_by k) (state.terms t).pending && is_paired (state.modes (sys.pair_of t))
cause_holds sys state t own Redo = can_step sys state t && asks_redo (next_verb sys state t)

-- an attempt of the open unit runs, and the cause holds for it
abbrev pub is_caused : Behaviour → State → ℕ → Cause → OpenUnit → Bool
is_caused sys state t cause unit = is_some unit.running && cause_holds sys state t unit cause

-- RESTART t n cause is legal by its kind
abbrev pub is_legal_restart : Behaviour → State → ℕ → ℕ → Cause → Bool
is_legal_restart sys state t n cause =
    some_with (λ unit. unit.number == n && (is_caused sys state t cause unit
    && nat_lt unit.restarts (sys.max_restarts t)))
    (state.units t)

-- END t SUSPENDED cause is legal by its kind
abbrev pub is_legal_suspended : Behaviour → State → ℕ → Cause → Bool
is_legal_suspended sys state t cause =
    some_with (λ unit. is_caused sys state t cause unit && unit.restarts == sys.max_restarts t)
    (state.units t)

-- the cause is a conflict of locks, for which processes are looked for
abbrev pub is_conflict : Cause → Bool
is_conflict (Older o m) = true
is_conflict _ = false
