-- What an entry of each kind does to what is kept. A new context is an argument.
use Rattle.std.specs.Prelude.{ℕ, ◌+◌, ◌==◌, ◌&&◌, Bool, true, false, List, [], ◌∷◌, map, Option, Some, None, is_none, if◌then◌else◌}
use Rattle.std.specs.List.{list_any}
use Rattle.pw_class.specs.Book.{first_queue, queue_at}
use Rattle.pw_class.specs.Queue.{Queue, after_take, at_process, with_free, with_request, without, works_for}
use Rattle.pw_class.specs.declared.request.Request.{Request}
use Rattle.pw_code.specs.declared.context.Context.{Context}
use Rattle.pw_code.specs.declared.file.FileCall.{FileCall}
use Rattle.pw_code.specs.declared.system.System.{System}
use Rattle.pw_code.specs.declared.unit.Unit.{Unit}
use Rattle.pw_event.specs.declared.event.Cause.{Cause}
use Rattle.pw_event.specs.declared.event.Cause.TheVariants.{Server, Takeover}
use Rattle.pw_event.specs.declared.event.Ending.{Ending}
use Rattle.pw_event.specs.declared.event.Ending.TheVariants.{Stopped, NoEntries, Fault, Suspended, Lost}
use Rattle.pw_image.specs.Reading.{context_in}
use Rattle.pw_world_state.specs.Kept.{Kept, KeptTerminal}
use Rattle.pw_onecopy.specs.Update.{upd}
use Rattle.pw_pair.specs.Pairs as pair
use Rattle.pw_pair.specs.Pairs.{SeenPair, after_applied, after_drop, after_raise, after_send, seat_of}
use Rattle.pw_pair.specs.Seats.{seats_with}
use Rattle.pw_pair.specs.Takeover.{resumed_image}
use Rattle.pw_pair.specs.declared.backup.Held.{Held}
use Rattle.pw_pair.specs.declared.message.CheckMessage.{CheckMessage}
use Rattle.pw_pair.specs.declared.mode.Mode.{Mode}
use Rattle.pw_pair.specs.declared.mode.Mode.TheVariants.{Alone, Raising, Paired, Down, Gone}
use Rattle.pw_pair.specs.declared.seat.BackupSeat.{BackupSeat}
use Rattle.pw_paired.specs.Failure.{awaited_after}
use Rattle.pw_tmf.specs.Leaving.{is_among, open_units}
use Rattle.pw_tmf.specs.Operation.{after_operation}
use Rattle.pw_tmf.specs.Told.{Told, ToldUnit}
use Rattle.pw_tmf.specs.Units.{after_commit, all_backed_out, backed_out, begun}

-- ---- places

-- the terminal is changed so
abbrev pub at_terminal : ℕ → (KeptTerminal → KeptTerminal) → Kept → Kept
at_terminal t change kept =
    record kept { terminals = upd kept.terminals t (change (kept.terminals t)) }

-- the pair is changed so
abbrev pub at_pair : ℕ → (SeenPair → SeenPair) → Kept → Kept
at_pair p change kept = record kept { pairs = upd kept.pairs p (change (kept.pairs p)) }

-- the book of the class is changed so
abbrev pub at_class : ℕ → (Queue → Queue) → Kept → Kept
at_class c change kept = record kept { queues = upd kept.queues c (change (kept.queues c)) }

-- the process has this context
abbrev pub with_job : ℕ → ℕ → Option Context → Kept → Kept
with_job c i context kept =
    record kept { jobs = upd kept.jobs c (upd (kept.jobs c) i context) }

-- the terminal goes on with a context, which has an answer more
abbrev pub with_context : Context → KeptTerminal → KeptTerminal
with_context new terminal = record terminal { context = Some new; ready = None }

-- its program has run on to the next verb
abbrev pub with_ready : Context → KeptTerminal → KeptTerminal
with_ready new terminal = record terminal { ready = Some new }

-- no unit of the terminal is open
abbrev pub without_unit : KeptTerminal → KeptTerminal
without_unit terminal = record terminal { start = None; restarts = 0; awaits = None }

-- ---- the start

-- a terminal before its first entry
abbrev pub first_terminal : Context → KeptTerminal
first_terminal context = record {
  context = Some context;
  ready = None;
  start = None;
  restarts = 0;
  awaits = None;
  pending = None;
  ending = None;
}

-- a pair of these terminals, before it is raised
abbrev pub first_pair : List ℕ → SeenPair
first_pair terminals = record { mode = Alone; seats = seats_with [] terminals }

-- before the first entry: each terminal is at the start of its program, each pair works alone, and
-- no unit has begun
abbrev pub kept_start : System → (ℕ → List ℕ) → (ℕ → Context) → Told → Kept
kept_start system members contexts disc = record {
  terminals = λ t. first_terminal (contexts t);
  disc = disc;
  queues = queue_at (map first_queue system.classes);
  jobs = λ c i. None;
  pairs = λ p. first_pair (members p);
  births = 0;
}

-- ---- terminals at their own verbs

-- no entry: a program has run on
abbrev pub kept_ran : ℕ → Context → Kept → Kept
kept_ran t new kept = at_terminal t (with_ready new) kept

-- SHOW and KEY: the context that was answered is kept
abbrev pub kept_show : ℕ → Context → Kept → Kept
kept_show t new kept = at_terminal t (with_context new) kept

-- KEY: the context that was answered is kept
abbrev pub kept_key : ℕ → Context → Kept → Kept
kept_key t new kept = at_terminal t (with_context new) kept

-- ---- pairs

-- CHECK: the message goes to the backup of the pair
abbrev pub kept_check : ℕ → CheckMessage → Kept → Kept
kept_check p message kept = at_pair p (after_send message) kept

-- APPLIED: the terminal's message is taken in
abbrev pub kept_applied : ℕ → ℕ → Kept → Kept
kept_applied p t kept = at_pair p (after_applied t) kept

-- RAISE
abbrev pub kept_raise : ℕ → Kept → Kept
kept_raise p kept = at_pair p after_raise kept

-- ---- units

-- the birth of an open unit, or of one that begins now
abbrev pub birth_for : Option ToldUnit → ℕ → ℕ
birth_for None births = births
birth_for (Some unit) births = unit.birth

-- how many units have begun, behind a beginning
abbrev pub births_behind : Option ToldUnit → ℕ → ℕ
births_behind None births = births + 1
births_behind (Some unit) births = births

-- the unit of this number, as the disc is asked for it
abbrev pub unit_at : Kept → ℕ → ℕ → Unit
unit_at kept t n =
    record { terminal = t; number = n; birth = birth_for (kept.disc.units t) kept.births }

-- the attempt runs: its start is the context so far
abbrev pub attempted : KeptTerminal → KeptTerminal
attempted own = record own { start = own.context }

-- an attempt of the unit begins
abbrev pub with_attempt : ℕ → ℕ → (KeptTerminal → KeptTerminal) → Kept → Kept
with_attempt t n change kept = record (at_terminal t change kept) {
  disc = begun kept.disc (unit_at kept t n);
  births = births_behind (kept.disc.units t) kept.births;
}

-- BEGIN of a transaction: its program goes on behind Begin
abbrev pub kept_begin : ℕ → ℕ → Context → Kept → Kept
kept_begin t n next kept = with_attempt t n (λ own. with_context next (attempted own)) kept

-- BEGIN of one SEND: its program stands where it stood
abbrev pub kept_begin_send : ℕ → ℕ → Kept → Kept
kept_begin_send t n kept = with_attempt t n attempted kept

-- SEND: the request waits behind the others
abbrev pub kept_send : ℕ → ℕ → ℕ → List ℕ → Kept → Kept
kept_send t n c message kept =
    at_class c
    (λ queue. with_request queue (record { terminal = t; unit = n; message = message })) kept

-- AGAIN
abbrev pub kept_again : ℕ → Context → Kept → Kept
kept_again t new kept = at_terminal t (with_context new) kept

-- COMMIT: the unit ends
abbrev pub kept_commit : ℕ → ℕ → Context → Kept → Kept
kept_commit t n new kept = record (at_terminal t (λ own. without_unit (with_context new own)) kept) {
  disc = after_commit kept.disc (unit_at kept t n) None;
}

-- BACK: the unit is backed out and ends
abbrev pub kept_back : ℕ → ℕ → Context → Kept → Kept
kept_back t n new kept = record (at_terminal t (λ own. without_unit (with_context new own)) kept) {
  disc = backed_out true kept.disc (unit_at kept t n);
}

-- ---- servers

-- TAKE: the process works on the first waiting request
abbrev pub kept_take : ℕ → ℕ → Context → Kept → Kept
kept_take c i new kept = at_class c after_take (with_job c i (Some new) kept)

-- FILE: the operation is done for the unit of the request, and the server goes on
abbrev pub kept_file : ℕ → ℕ → Request → FileCall → Context → Kept → Kept
kept_file c i request call new kept = record (with_job c i (Some new) kept) {
  disc = after_operation kept.disc (unit_at kept request.terminal request.unit) call;
}

-- the process is free
abbrev pub free_process : ℕ → ℕ → Kept → Kept
free_process c i kept =
    at_class c (λ queue. with_free queue i) (with_job c i None kept)

-- REPLY in a transaction, and of a run fault
abbrev pub kept_reply : ℕ → ℕ → ℕ → Context → Kept → Kept
kept_reply c i t new kept = at_terminal t (with_context new) (free_process c i kept)

-- REPLY that ends a unit of one SEND: its reply is kept
abbrev pub kept_reply_ends : ℕ → ℕ → ℕ → ℕ → List ℕ → Context → Kept → Kept
kept_reply_ends c i t n reply new kept =
    record (at_terminal t (λ own. without_unit (with_context new own)) (free_process c i kept)) {
      disc = after_commit kept.disc (unit_at kept t n) (Some reply);
    }

-- ---- restarts and failures

-- a book without the requests of these terminals
abbrev pub without_each : List ℕ → Queue → Queue
without_each [] queue = queue
without_each (t ∷ terminals) queue = without_each terminals (without t queue)

-- a process goes on where it works for none of these terminals
abbrev pub job_without : List ℕ → Option Request → Option Context → Option Context
job_without terminals request job =
    if list_any (λ t. works_for t request) terminals then None else job

-- the requests of these terminals are cancelled
abbrev pub cancel : List ℕ → Kept → Kept
cancel terminals kept = record kept {
  queues = λ c. without_each terminals (kept.queues c);
  jobs = λ c i. job_without terminals (at_process (kept.queues c) i) (kept.jobs c i);
}

-- these terminals are changed so
abbrev pub at_each : List ℕ → (ℕ → KeptTerminal → KeptTerminal) → Kept → Kept
at_each terminals change kept = record kept {
  terminals = λ t.
      if is_among terminals t then change t (kept.terminals t) else kept.terminals t;
}

-- a terminal behind a restart: it is at its start, and the restart is recorded
abbrev pub restarted : Cause → KeptTerminal → KeptTerminal
restarted cause own = record own {
  context = own.start;
  ready = None;
  start = None;
  restarts = own.restarts + 1;
  awaits = awaited_after cause own.awaits;
  pending = None;
}

-- RESTART: the attempt is backed out, and its unit stays open
abbrev pub kept_restart : ℕ → ℕ → Cause → Kept → Kept
kept_restart t n cause kept = record (at_terminal t (restarted cause) (cancel (t ∷ []) kept)) {
  disc = backed_out false kept.disc (unit_at kept t n);
}

-- the open units of these terminals are left
abbrev pub leave : List ℕ → Kept → Kept
leave terminals kept = record (at_each terminals (λ t. without_unit) (cancel terminals kept)) {
  disc = all_backed_out true kept.disc (open_units kept.disc terminals);
}

-- a terminal whose path is gone
abbrev pub without_path : KeptTerminal → KeptTerminal
without_path own = record own { context = None; ready = None; pending = None }

-- the primary of a pair of these terminals fails in a mode
abbrev pub primary_lost : Mode → List ℕ → Kept → Kept
primary_lost Paired terminals kept = at_each terminals (λ t. without_path) (cancel terminals kept)
primary_lost Raising terminals kept = at_each terminals (λ t. without_path) (leave terminals kept)
primary_lost Alone terminals kept = at_each terminals (λ t. without_path) (leave terminals kept)
primary_lost Down terminals kept = kept
primary_lost Gone terminals kept = kept

-- its backup fails in a mode
abbrev pub backup_lost : Mode → List ℕ → Kept → Kept
backup_lost Down terminals kept = at_each terminals (λ t. without_path) (leave terminals kept)
backup_lost Paired terminals kept = kept
backup_lost Raising terminals kept = kept
backup_lost Alone terminals kept = kept
backup_lost Gone terminals kept = kept

-- FAIL TCP: a member of the pair of these terminals fails
abbrev pub kept_fail_tcp : ℕ → Bool → List ℕ → Kept → Kept
kept_fail_tcp p true terminals kept =
    at_pair p (pair.primary_fails (kept.pairs p).mode)
    (primary_lost (kept.pairs p).mode terminals kept)
kept_fail_tcp p false terminals kept =
    at_pair p (pair.backup_fails (kept.pairs p).mode)
    (backup_lost (kept.pairs p).mode terminals kept)

-- a process stops with what it works on, and the cause is pending for the terminal of the request
abbrev pub process_stops : ℕ → ℕ → ℕ → Option Request → Kept → Kept
process_stops c i k None kept = kept
process_stops c i k (Some request) kept =
    at_terminal request.terminal (λ own. record own { pending = Some (Server k) })
    (free_process c i kept)

-- FAIL SERVER
abbrev pub kept_fail_server : ℕ → ℕ → ℕ → Kept → Kept
kept_fail_server c i k kept = process_stops c i k (at_process (kept.queues c) i) kept

-- what is held of the terminal of a seat
abbrev pub memory_in : Option BackupSeat → Option Held
memory_in None = None
memory_in (Some seat) = seat.memory

-- an attempt of the unit of this number runs
abbrev pub runs_told : ℕ → Option ToldUnit → Bool
runs_told number None = false
runs_told number (Some unit) = unit.number == number && unit.running

-- A live terminal behind the takeover, whose last ended unit has this number: it goes on with the
-- context whose image was held.
abbrev pub resumed : ℕ → Option Held → Option ToldUnit → ℕ → KeptTerminal → KeptTerminal
resumed p None unit last own = own
resumed p (Some held) unit last own = record own {
  context = context_in (resumed_image held last);
  ready = None;
  pending = if runs_told held.unit unit then Some (Takeover p) else own.pending;
}

-- the same where the terminal has no ending
abbrev pub resumed_live : ℕ → Option Held → Option ToldUnit → ℕ → KeptTerminal → KeptTerminal
resumed_live p held unit last own =
    if is_none own.ending then resumed p held unit last own else own

-- a terminal of the pair behind the takeover
abbrev pub taken_over : ℕ → Kept → ℕ → KeptTerminal → KeptTerminal
taken_over p kept t =
    resumed_live p (memory_in (seat_of t (kept.pairs p))) (kept.disc.units t)
    (kept.disc.ended t).number

-- TAKEOVER: the terminals of the pair go on, and the memory leaves
abbrev pub kept_takeover : ℕ → List ℕ → Kept → Kept
kept_takeover p terminals kept =
    at_pair p pair.after_take (at_each terminals (taken_over p kept) kept)

-- ---- END

-- an open unit of the terminal is left at an ending
abbrev pub leave_at : ℕ → Ending → Kept → Kept
leave_at t Stopped kept = kept
leave_at t NoEntries kept = leave (t ∷ []) kept
leave_at t (Fault x) kept = leave (t ∷ []) kept
leave_at t (Suspended cause) kept = leave (t ∷ []) kept
leave_at t Lost kept = kept

-- END: the terminal has its ending, and its pair drops it
abbrev pub kept_end : ℕ → ℕ → Ending → Kept → Kept
kept_end p t ending kept =
    at_pair p (after_drop t)
    (at_terminal t (λ own. record own { pending = None; ending = Some ending })
    (leave_at t ending kept))
