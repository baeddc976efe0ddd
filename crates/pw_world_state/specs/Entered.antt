-- What is kept behind an entry, computed from what was kept before it.
use Rattle.std.specs.Prelude.{ℕ, Bool, true, false, not, List, [], ◌∷◌, slice_get, Option, Some, None, option_map, if◌then◌else◌}
use Rattle.pw_class.specs.Queue.{at_process}
use Rattle.pw_class.specs.declared.request.Request.{Request}
use Rattle.pw_code.specs.Entry.{EntryLineModel}
use Rattle.pw_code.specs.declared.context.Context.{Context}
use Rattle.pw_code.specs.declared.file.FileCall.{FileCall}
use Rattle.pw_code.specs.declared.system.ClassInfo.{ClassInfo}
use Rattle.pw_code.specs.declared.system.System.{System}
use Rattle.pw_code.specs.declared.system.TermInfo.{TermInfo}
use Rattle.pw_code.specs.declared.verb.Answer.{Answer}
use Rattle.pw_code.specs.declared.verb.Answer.TheVariants as answer
use Rattle.pw_code.specs.declared.verb.Verb.{Verb}
use Rattle.pw_code.specs.declared.verb.Verb.TheVariants as verb
use Rattle.pw_event.specs.declared.event.Event.{Event}
use Rattle.pw_event.specs.declared.event.Event.TheVariants.{Show, Key, CheckStart, CheckEnd, CheckCopy, Applied, Begin, Send, Take, File, Reply, Again, Commit, Back, Restart, FailTcp, FailServer, Takeover, Raise, End}
use Rattle.pw_code_meaning.specs.Config.{closed, starting_server}
use Rattle.pw_code_meaning.specs.OfSystem.{entry_at, file_told, number_by}
use Rattle.pw_image.specs.Image.{image_of}
use Rattle.pw_world_state.specs.Asked.{answered_with, unit_in, verb_in}
use Rattle.pw_world_state.specs.Changes.{at_terminal, attempted, free_process, kept_applied, kept_begin_send, kept_check, kept_end, kept_fail_server, kept_fail_tcp, kept_file, kept_raise, kept_restart, kept_send, kept_take, kept_takeover, unit_at, with_attempt, without_unit}
use Rattle.pw_world_state.specs.Kept.{Kept, KeptTerminal}
use Rattle.pw_onecopy.specs.Operation.{answer_of}
use Rattle.pw_onecopy.specs.Path.{FileResult}
use Rattle.pw_pair.specs.declared.message.CheckKind.{CheckKind}
use Rattle.pw_pair.specs.declared.message.CheckKind.TheVariants as kind
use Rattle.pw_pair.specs.declared.message.CheckMessage.{CheckMessage}
use Rattle.pw_paired.specs.Server.{reply_of}
use Rattle.pw_paired.specs.Terminal.{kept_reply}
use Rattle.pw_tmf.specs.Units.{after_commit, backed_out}

-- ---- a terminal

-- its pair
abbrev pub tcp_of : System → ℕ → ℕ
tcp_of system t = number_by (λ info. info.tcp) (slice_get system.terminals t)

-- its entry lines
abbrev pub lines_of : Option TermInfo → List EntryLineModel
lines_of None = []
lines_of (Some info) = info.entries

-- the answer is put in at its verb
abbrev pub answering : System → Answer → KeptTerminal → KeptTerminal
answering system a own =
    record own { context = option_map (answered_with system a) own.ready; ready = None }

-- a terminal's program takes an answer at its verb
abbrev pub answer_terminal : System → ℕ → Answer → Kept → Kept
answer_terminal system t a kept = at_terminal t (answering system a) kept

-- the verb at which its program stands
abbrev pub verb_of : System → KeptTerminal → Option Verb
verb_of system own = option_map (verb_in system) own.ready

-- ---- messages

-- a message with the image of a context, if there is one
abbrev pub image_message : ℕ → CheckKind → Context → CheckMessage
image_message t kind context =
    record { terminal = t; kind = kind; unit = unit_in context; image = image_of context }

-- a message with the image of a context goes to the backup of the terminal's pair, if there is one
abbrev pub send_image : System → ℕ → CheckKind → Option Context → Kept → Kept
send_image system t kind None kept = kept
send_image system t kind (Some context) kept =
    kept_check (tcp_of system t) (image_message t kind context) kept

-- what a COPY carries: the start of the attempt that runs, and else the path
abbrev pub copied : Option Context → Option Context → Option Context
copied None context = context
copied (Some start) context = Some start

-- what an END carries: the path with the answer that closes the transaction
abbrev pub closing_context : System → Option Verb → KeptTerminal → Option Context
closing_context system (Some verb.End) own = (answering system answer.Ended own).context
closing_context system (Some verb.Drop) own = (answering system answer.Dropped own).context
closing_context system _ own = None

-- ---- BEGIN and SEND

-- BEGIN by the verb: at Begin the program takes an answer, and at a SEND it stays
abbrev pub begin_at : System → ℕ → ℕ → ℕ → Option Verb → Kept → Kept
begin_at system t n r (Some verb.Begin) kept =
    with_attempt t n (λ own. answering system (answer.Begun r) (attempted own)) kept
begin_at system t n r _ kept = kept_begin_send t n kept

-- the message that a verb sends
abbrev pub sent_by : Option Verb → List ℕ
sent_by (Some (verb.Send class message)) = message
sent_by _ = []

-- ---- entries

-- SHOW, KEY and AGAIN
abbrev pub entered_show : System → ℕ → Kept → Kept
entered_show system t kept = answer_terminal system t answer.Shown kept

-- KEY: the program takes its k-th entry line
abbrev pub entered_key : System → ℕ → ℕ → Kept → Kept
entered_key system t k kept =
    answer_terminal system t (answer.Entry (entry_at (lines_of (slice_get system.terminals t)) k)) kept

-- AGAIN: the program takes the reply that TMF keeps
abbrev pub entered_again : System → ℕ → Kept → Kept
entered_again system t kept =
    answer_terminal system t (answer.Replied (kept_reply (kept.disc.ended t))) kept

-- CHECK START, CHECK END and CHECK COPY
abbrev pub entered_check_start : System → ℕ → Kept → Kept
entered_check_start system t kept =
    send_image system t kind.Start (kept.terminals t).context kept

-- CHECK END: the image behind the answer that ends the transaction is sent
abbrev pub entered_check_end : System → ℕ → Kept → Kept
entered_check_end system t kept =
    send_image system t kind.End
    (closing_context system (verb_of system (kept.terminals t)) (kept.terminals t)) kept

-- CHECK COPY: the image of the attempt's start, or else of the path, is sent
abbrev pub entered_check_copy : System → ℕ → Kept → Kept
entered_check_copy system t kept =
    send_image system t kind.Copy (copied (kept.terminals t).start (kept.terminals t).context) kept

-- BEGIN and SEND
abbrev pub entered_begin : System → ℕ → ℕ → ℕ → Kept → Kept
entered_begin system t n r kept =
    begin_at system t n r (verb_of system (kept.terminals t)) kept

-- SEND: the program's message waits for the class
abbrev pub entered_send : System → ℕ → ℕ → ℕ → Kept → Kept
entered_send system t n c kept =
    kept_send t n c (sent_by (verb_of system (kept.terminals t))) kept

-- COMMIT and BACK
abbrev pub entered_commit : System → ℕ → ℕ → Kept → Kept
entered_commit system t n kept =
    record (at_terminal t (λ own. without_unit (answering system answer.Ended own)) kept) {
      disc = after_commit kept.disc (unit_at kept t n) None;
    }

-- BACK: the unit is backed out and ends, and the program takes Dropped
abbrev pub entered_back : System → ℕ → ℕ → Kept → Kept
entered_back system t n kept =
    record (at_terminal t (λ own. without_unit (answering system answer.Dropped own)) kept) {
      disc = backed_out true kept.disc (unit_at kept t n);
    }

-- TAKE: the server of the class starts on the message of the first waiting request
abbrev pub started_on : System → Option ClassInfo → List Request → Context
started_on system (Some info) (request ∷ others) =
    closed (starting_server system info.server request.message)
started_on system _ _ = closed (starting_server system 0 [])

-- TAKE: a process starts on the first waiting request
abbrev pub entered_take : System → ℕ → ℕ → Kept → Kept
entered_take system c i kept =
    kept_take c i (started_on system (slice_get system.classes c) (kept.queues c).waiting) kept

-- FILE: the call of the server in the process is done, and its answer put in
abbrev pub answer_on : Kept → FileCall → FileResult
answer_on kept call =
    answer_of (kept.disc.key_length call.file) (kept.disc.files call.file) call.op call

-- FILE by the request and the verb of the process
abbrev pub file_at : System → ℕ → ℕ → Option Request → Context → Verb → Kept → Kept
file_at system c i (Some request) context (verb.File call) kept =
    kept_file c i request call (answered_with system (file_told (answer_on kept call)) context) kept
file_at system c i _ context _ kept = kept

-- FILE by the context of the process
abbrev pub file_by : System → ℕ → ℕ → Option Context → Kept → Kept
file_by system c i None kept = kept
file_by system c i (Some context) kept =
    file_at system c i (at_process (kept.queues c) i) context (verb_in system context) kept

-- FILE: the operation is done, and the server takes its answer
abbrev pub entered_file : System → ℕ → ℕ → Kept → Kept
entered_file system c i kept = file_by system c i (kept.jobs c i) kept

-- REPLY: the process is free, and its terminal goes on with the answer; a reply outside a
-- transaction ends a unit of one SEND, and is kept
abbrev pub reply_by : System → Option Context → List ℕ
reply_by system None = []
reply_by system (Some context) = reply_of (verb_in system context)

-- the path at which a context stands is in no transaction
abbrev pub is_outside_at : Option Context → Bool
is_outside_at None = false
is_outside_at (Some context) = not context.in_unit

-- the number of its unit
abbrev pub unit_of_ready : Option Context → ℕ
unit_of_ready None = 0
unit_of_ready (Some context) = unit_in context

-- REPLY inside a transaction: the program takes the reply, and the process is free
abbrev pub replies_to : System → ℕ → ℕ → ℕ → List ℕ → Kept → Kept
replies_to system c i t reply kept =
    answer_terminal system t (answer.Replied reply) (free_process c i kept)

-- REPLY of one SEND: the unit ends with its changes and its kept reply
abbrev pub replies_last : System → ℕ → ℕ → ℕ → ℕ → List ℕ → Kept → Kept
replies_last system c i t n reply kept =
    record (at_terminal t (λ own. without_unit (answering system (answer.Replied reply) own))
    (free_process c i kept)) {
      disc = after_commit kept.disc (unit_at kept t n) (Some reply);
    }

-- REPLY: with a reply, or with the run fault of the server
abbrev pub entered_reply : System → ℕ → ℕ → ℕ → Option ℕ → Kept → Kept
entered_reply system c i t None kept =
    let reply = reply_by system (kept.jobs c i) in
    let ready = (kept.terminals t).ready in
    if is_outside_at ready then replies_last system c i t (unit_of_ready ready) reply kept
    else replies_to system c i t reply kept
entered_reply system c i t (Some x) kept =
    answer_terminal system t (answer.Failed x) (free_process c i kept)

-- ---- every entry; the lists have the terminals of each pair

-- what an entry of each kind leaves of what is kept
abbrev pub entered : System → (ℕ → List ℕ) → Event → Kept → Kept
entered system members (Show t phase attempt k) kept = entered_show system t kept
entered system members (Key t k) kept = entered_key system t k kept
entered system members (CheckStart t) kept = entered_check_start system t kept
entered system members (CheckEnd t) kept = entered_check_end system t kept
entered system members (CheckCopy t) kept = entered_check_copy system t kept
entered system members (Applied t) kept = kept_applied (tcp_of system t) t kept
entered system members (Begin t n r) kept = entered_begin system t n r kept
entered system members (Send t n c) kept = entered_send system t n c kept
entered system members (Take c i t) kept = entered_take system c i kept
entered system members (File c i op mode f status) kept = entered_file system c i kept
entered system members (Reply c i t fault) kept = entered_reply system c i t fault kept
entered system members (Again t n) kept = entered_again system t kept
entered system members (Commit t n) kept = entered_commit system t n kept
entered system members (Back t n) kept = entered_back system t n kept
entered system members (Restart t n cause) kept = kept_restart t n cause kept
entered system members (FailTcp p primary k) kept = kept_fail_tcp p primary (members p) kept
entered system members (FailServer c i k) kept = kept_fail_server c i k kept
entered system members (Takeover p) kept = kept_takeover p (members p) kept
entered system members (Raise p) kept = kept_raise p kept
entered system members (End t ending) kept = kept_end (tcp_of system t) t ending kept
