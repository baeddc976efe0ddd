-- Whether RESTART and END SUSPENDED are legal, computed from what is kept.
use Rattle.std.specs.Prelude.{ℕ, ◌+◌, ◌==◌, ◌&&◌, ◌||◌, nat_lt, Bool, not, length, slice_get}
use Rattle.std.specs.List.{list_any}
use Rattle.pw_class.specs.declared.request.Request.{Request}
use Rattle.pw_code.specs.declared.context.Context.{Context}
use Rattle.pw_code.specs.declared.file.FileCall.{FileCall}
use Rattle.pw_code.specs.declared.system.System.{System}
use Rattle.pw_code.specs.declared.system.TermInfo.{TermInfo}
use Rattle.pw_code.specs.declared.unit.Unit as unit
use Rattle.pw_event.specs.declared.event.Cause.{Cause}
use Rattle.pw_event.specs.declared.event.Cause.TheVariants.{Older, Takeover, Server, Redo}
use Rattle.pw_code_meaning.specs.OfSystem.{number_by, processes_by}
use Rattle.pw_world_state.specs.Asked.{verb_in}
use Rattle.pw_world_state.specs.Changes.{unit_at}
use Rattle.pw_world_state.specs.ClassTests.{works_where}
use Rattle.pw_world_state.specs.Kept.{Kept}
use Rattle.pw_world_state.specs.PairTests.{is_alone, is_gone}
use Rattle.pw_world_state.specs.TerminalTests.{can_where, is_paired, seen_pair_of}
use Rattle.pw_laws.specs.legal.Values.{is_server_by, is_takeover_by, some_with}
use Rattle.pw_laws.specs.legal.Verbs.{asks_file, asks_redo}
use Rattle.pw_locks.specs.Conflicts.{conflict, is_same_unit}
use Rattle.pw_locks.specs.declared.lock.Lock.{Lock}
use Rattle.pw_onecopy.specs.Operation.{lock_for}
use Rattle.pw_paired.specs.Units.{any_below}
use Rattle.pw_tmf.specs.Told.{ToldUnit}

-- an open unit of a terminal, as locks name it
abbrev pub unit_named : ℕ → ToldUnit → unit.Unit
unit_named t own = record { terminal = t; number = own.number; birth = own.birth }

-- the lock of the call conflicts with a lock of the other unit
abbrev pub call_meets : Kept → unit.Unit → Request → FileCall → Bool
call_meets kept other request call =
    let lock : Lock = lock_for kept.disc.rule (kept.disc.key_length call.file)
    (kept.disc.files call.file) (unit_at kept request.terminal request.unit) call in
    list_any (λ held. is_same_unit held.unit other && conflict lock held) kept.disc.locks

-- the request is of one unit, its server stands at its verb, and the lock of its next operation
-- conflicts with a lock of the other
abbrev pub work_meets : System → Kept → unit.Unit → unit.Unit → Request → Context → Bool
work_meets system kept one other request context =
    request.terminal == one.terminal && (request.unit == one.number
    && (context.at_verb && asks_file (call_meets kept other request) (verb_in system context)))

-- the lock of the next operation of a process for one unit, whose server stands at its verb,
-- conflicts with a lock of the other
abbrev pub meets : System → Kept → unit.Unit → unit.Unit → Bool
meets system kept one other =
    any_below (length system.classes) (λ c.
    any_below (processes_by (slice_get system.classes c)) (λ i.
    works_where kept c (i + 1) (work_meets system kept one other)))

-- the cause OLDER o m holds for the unit of a terminal
abbrev pub is_older : System → Kept → ℕ → ToldUnit → ℕ → ℕ → Bool
is_older system kept t own o m =
    some_with (λ older. older.number == m && (nat_lt older.birth own.birth
    && (not (is_gone (seen_pair_of system kept t).mode)
    && (meets system kept (unit_named t own) (unit_named o older)
    || meets system kept (unit_named o older) (unit_named t own)))))
    (kept.disc.units o)

-- the cause holds for the unit of a terminal
abbrev pub kept_cause_holds : System → Kept → ℕ → ToldUnit → Cause → Bool
kept_cause_holds system kept t own (Older o m) = is_older system kept t own o m
kept_cause_holds system kept t own (Takeover p) =
    some_with (is_takeover_by p) (kept.terminals t).pending
    && is_alone (seen_pair_of system kept t).mode
kept_cause_holds system kept t own (Server k) =
    some_with (is_server_by k) (kept.terminals t).pending
    && is_paired (seen_pair_of system kept t).mode
kept_cause_holds system kept t own Redo =
    can_where system kept t (λ context. asks_redo (verb_in system context))

-- the most restarts of a terminal's units
abbrev pub most_restarts : System → ℕ → ℕ
most_restarts system t =
    number_by (λ (info : TermInfo). info.max_restarts) (slice_get system.terminals t)

-- RESTART t n cause
abbrev pub may_restart : System → Kept → ℕ → ℕ → Cause → Bool
may_restart system kept t n cause =
    some_with (λ own. own.number == n && ((own.running && kept_cause_holds system kept t own cause)
    && nat_lt (kept.terminals t).restarts (most_restarts system t)))
    (kept.disc.units t)

-- END t SUSPENDED cause
abbrev pub may_suspend : System → Kept → ℕ → Cause → Bool
may_suspend system kept t cause =
    some_with (λ own. (own.running && kept_cause_holds system kept t own cause)
    && (kept.terminals t).restarts == most_restarts system t)
    (kept.disc.units t)
