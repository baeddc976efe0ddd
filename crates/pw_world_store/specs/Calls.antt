-- What single calls ask for and do.
use Rattle.std.specs.Prelude.{◌≡◌, ℕ, ◌<◌, Bool, true, false, List, [], ◌∷◌, length, Option, Some, None}
use Rattle.pw_class.specs.Book.{queue_at}
use Rattle.pw_class.specs.Queue.{Queue, at_process, taken}
use Rattle.pw_class.specs.declared.request.Request.{Request}
use Rattle.pw_class.specs.declared.request.Taken.{Taken}
use Rattle.pw_class.specs.declared.request.Taken.TheVariants.{Got}
use Rattle.pw_code.specs.declared.file.FileCall.{FileCall}
use Rattle.pw_code.specs.declared.verb.Verb.{Verb}
use Rattle.pw_code.specs.declared.verb.Verb.TheVariants as verb
use Rattle.pw_world_store.specs.Keeps.{KeepState, job_of, jobs_at, kept_in, terminals_in}
use Rattle.pw_world_state.specs.Changes.{at_terminal, cancel, unit_at, without_unit}
use Rattle.pw_event.specs.declared.event.Cause.{Cause}
use Rattle.pw_world_state.specs.Kept.{Kept, KeptTerminal}
use Rattle.pw_world_store.specs.declared.job.ProcessJob.{ProcessJob}
use Rattle.pw_tmf.specs.Answers.{Operates}
use Rattle.pw_tmf.specs.Operation.{IsCall}
use Rattle.pw_tmf.specs.Told.{Told}
use Rattle.pw_tmf.specs.Units.{IsRunning, after_commit, backed_out}
use Rattle.pw_tmf.specs.declared.answer.FileAnswer.{FileAnswer}

-- a request waits and a process is free
abbrev pub is_given : Taken → Bool
is_given (Got process request) = true
is_given _ = false

-- a request waits for the class and a process is free
abbrev pub can_take : Queue → Bool
can_take queue = is_given (taken queue)

-- the process that takes the first waiting request
abbrev pub process_of : Taken → ℕ
process_of (Got process request) = process
process_of _ = 0

-- the process of the class that takes its first waiting request
abbrev pub taker : Queue → ℕ
taker queue = process_of (taken queue)

-- the process and the terminal of the request that it gets
abbrev pub request_given : Taken → Option (ℕ × ℕ)
request_given (Got process request) = Some (process, request.terminal)
request_given _ = None

-- the same, where the process and the request are these
abbrev pub given_to : Option ℕ → Option Request → Option (ℕ × ℕ)
given_to None request = None
given_to (Some process) None = None
given_to (Some process) (Some request) = Some (process, request.terminal)

-- its program stands at its last answer again
abbrev pub before_verb : KeptTerminal → KeptTerminal
before_verb terminal = record terminal { ready = None }

-- a unit ends with its changes, one SEND with its reply, and its program stands where it stood
abbrev pub kept_committed : ℕ → ℕ → Option (List ℕ) → Kept → Kept
kept_committed t n reply kept =
    record (at_terminal t without_unit kept) { disc = after_commit kept.disc (unit_at kept t n) reply }

-- a unit is backed out and ends, and its program stands where it stood
abbrev pub kept_backed_out : ℕ → ℕ → Kept → Kept
kept_backed_out t n kept =
    record (at_terminal t without_unit kept) { disc = backed_out true kept.disc (unit_at kept t n) }

-- ---- FILE

-- a busy process stands at this call, and an attempt of its unit runs that may make it
pub record MayOperate {D : Type 0} (told : D → Told) (keep : KeepState D) (c i : ℕ) : Type 0 where
  pub there : c < length keep.system.classes
  pub own : ProcessJob
  pub job : job_of (jobs_at keep.jobs c) i ≡ Some own
  pub call : FileCall
  pub asks : own.verb ≡ Some (verb.File call)
  pub request : Request
  pub post : at_process (queue_at keep.book c) i ≡ Some request
  pub known : request.terminal < length keep.system.terminals
  pub runs : IsRunning (told keep.disc) (unit_at (kept_in told keep) request.terminal request.unit)
  pub fits : IsCall (told keep.disc) call

-- the disc answers the call of the unit so, and all else stays
pub record IsOperated {D : Type 0} (told : D → Told) (old : KeepState D) (c i : ℕ) (may : MayOperate told old c i) (answer : FileAnswer)
    (new : KeepState D) : Type 0 where
  pub operates : Operates answer (told old.disc) (unit_at (kept_in told old) may.request.terminal may.request.unit) may.call (told new.disc)
  pub rest : new ≡ record old { disc = new.disc }

-- the call at which a job stands, if it does
abbrev pub call_in : Option Verb → Option FileCall
call_in (Some (verb.File call)) = Some call
call_in _ = None

-- the operation on a file at which a job stands
abbrev pub call_of : Option ProcessJob → Option FileCall
call_of None = None
call_of (Some job) = call_in job.verb

-- a cause is pending for a terminal
abbrev pub pended : Cause → KeptTerminal → KeptTerminal
pended cause own = record own { pending = Some cause }

-- ---- pairs

-- the terminals of the pair
abbrev pub members_in : Kept → ℕ → List ℕ
members_in kept p = terminals_in (kept.pairs p)

-- ---- requests

-- the requests of one terminal are cancelled
abbrev pub cancel_of : ℕ → Kept → Kept
cancel_of t kept = cancel (t ∷ []) kept
