-- The behaviour of a system by its codes: what its terminals ask and show, and what its servers do.
pub use Rattle.pw_tree_meaning.specs.Runs.{entry_at, told, file_told}
pub use Rattle.pw_tree_meaning.specs.OfDeck.{number_by, processes_by, records_by}
use Rattle.pw_tree_meaning.specs.Program.{key_length_by}
use Rattle.std.specs.Prelude.{ℕ, zero, suc, ◌+◌, List, [], length, map, slice_get, Option, Some, None}
use Rattle.pw_event.specs.declared.script.FailLine.{FailLine}
use Rattle.pw_onecopy.specs.Behaviour.{Behaviour, Served}
use Rattle.pw_onecopy.specs.Behaviour as served
use Rattle.pw_onecopy.specs.Operation.{answer_of, records_behind}
use Rattle.pw_onecopy.specs.Path.{PathAnswer, FileResult}
use Rattle.pw_onecopy.specs.Update.{upd}
use Rattle.pw_code.specs.declared.system.ClassInfo.{ClassInfo}
use Rattle.pw_code.specs.declared.system.System.{System}
use Rattle.pw_code.specs.declared.system.TermInfo.{TermInfo}
use Rattle.pw_code.specs.declared.verb.Verb.{Verb}
use Rattle.pw_code.specs.declared.verb.Verb.TheVariants as verb
use Rattle.pw_code_meaning.specs.Answers.{put}
use Rattle.pw_code_meaning.specs.Config.{Config, starting, starting_server, most_counted}
use Rattle.pw_code_meaning.specs.Runs.{config_after_answers}
use Rattle.pw_code_meaning.specs.Steps.{verb_of}

-- ---- terminals

-- where a terminal's program stands after a path
abbrev pub terminal_after : System → TermInfo → List PathAnswer → Config
terminal_after system terminal path =
    config_after_answers system (starting system terminal.program) (map (told terminal.entries) path)

-- its next verb
abbrev pub asked_of : System → Option TermInfo → List PathAnswer → Verb
asked_of system None path = verb.Stop
asked_of system (Some terminal) path = verb_of system (terminal_after system terminal path)

-- the cells of its screen
abbrev pub image_of : System → Option TermInfo → List PathAnswer → List ℕ
image_of system None path = []
image_of system (Some terminal) path = (terminal_after system terminal path).rest.screen

-- ---- servers

-- where a server stands on a message, behind a list of file answers
abbrev pub server_after : System → ClassInfo → List ℕ → List FileResult → Config
server_after system class message done =
    config_after_answers system (starting_server system class.server message) (map file_told done)

-- its next file operation, reply or fault
abbrev pub operation_of : System → Option ClassInfo → List ℕ → List FileResult → Verb
operation_of system None message done = verb.Fault 0
operation_of system (Some class) message done =
    verb_of system (server_after system class message done)

-- the key length of a file
abbrev pub key_length : System → ℕ → ℕ
key_length system f = key_length_by (slice_get system.files f)

-- a server that stands at a verb: its operation is done on files, from where it goes on, or it is
-- at its end
abbrev pub served_by : System → Verb → Config → (ℕ → List (List ℕ))
    → (Config → (ℕ → List (List ℕ)) → Served) → Served
served_by system (verb.Reply reply) c files next = served.Reply reply files
served_by system (verb.Fault code) c files next = served.Fault code
served_by system (verb.File call) c files next =
    let size = key_length system call.file in
    let found : FileResult = answer_of size (files call.file) call.op call in
    next (config_after_answers system (put system (file_told found) c) [])
    (upd files call.file (records_behind size (files call.file) call))
served_by system _ c files next = served.Fault 0

-- at most so many operations
abbrev pub serves : System → ℕ → Config → (ℕ → List (List ℕ)) → Served
serves system zero c files = served.Fault 0
serves system (suc n) c files = served_by system (verb_of system c) c files (serves system n)

-- what a class's server comes to on a message and files, run by itself
abbrev pub served_alone : System → Option ClassInfo → List ℕ → (ℕ → List (List ℕ)) → Served
served_alone system None message files = served.Fault 0
served_alone system (Some class) message files =
    serves system (most_counted + 1) (server_after system class message []) files

-- the behaviour of a system with failure lines
abbrev pub behaviour : List FailLine → System → Behaviour
behaviour script system = record {
  terminals = length system.terminals;
  pairs = length system.tcps;
  pair_of = λ t. number_by (λ terminal. terminal.tcp) (slice_get system.terminals t);
  max_restarts = λ t. number_by (λ terminal. terminal.max_restarts) (slice_get system.terminals t);
  entries = λ t. number_by (λ terminal. length terminal.entries) (slice_get system.terminals t);
  ask = λ t path. asked_of system (slice_get system.terminals t) path;
  image = λ t path. image_of system (slice_get system.terminals t) path;
  classes = length system.classes;
  processes = λ c. processes_by (slice_get system.classes c);
  ops = λ c message done. operation_of system (slice_get system.classes c) message done;
  serve = λ c message files. served_alone system (slice_get system.classes c) message files;
  files = length system.files;
  key_length = key_length system;
  records = λ f. records_by (slice_get system.files f);
  rule = system.rule;
  script = script;
}
