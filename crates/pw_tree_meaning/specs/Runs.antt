-- The run of a program: its turns, its calls, its end.
use Rattle.std.specs.Prelude.{ℕ, zero, suc, ◌+◌, ◌-◌, nat_lt, Bool, true, false, List, [], ◌∷◌, map, slice_get, unwrap_or, if◌then◌else◌}
use Rattle.pw_words.specs.Words.{Word}
use Rattle.pw_forms.specs.declared.statement.Paragraph.{Paragraph}
use Rattle.pw_code.specs.Entry.{EntryLineModel}
use Rattle.pw_code.specs.Limits.{most_active}
use Rattle.pw_code.specs.declared.verb.Verb.{Verb}
use Rattle.pw_code.specs.declared.verb.Verb.TheVariants as verb
use Rattle.pw_code.specs.declared.verb.Answer.{Answer}
use Rattle.pw_code.specs.declared.verb.Answer.TheVariants as answer
use Rattle.pw_onecopy.specs.Path.{PathAnswer, Shown, Begun, Replied, Failed, Ended, Dropped, FileResult}
use Rattle.pw_onecopy.specs.Path as path
use Rattle.pw_onecopy.specs.Behaviour.{Served}
use Rattle.pw_onecopy.specs.Behaviour as served
use Rattle.pw_terminal.specs.Screen.{blank_cells}
use Rattle.pw_tree_meaning.specs.Program.{DeckModel, Program, program_at, body_named, first_screen, storage_size}
use Rattle.pw_tree_meaning.specs.Store.{initial_store}
use Rattle.pw_tree_meaning.specs.State.{ProgramState, Out, Goes, Leaves, Asks, then_do, faults, no_registers}
use Rattle.pw_tree_meaning.specs.Setting.{Setting}
use Rattle.pw_tree_meaning.specs.Sends.{stop}
use Rattle.pw_tree_meaning.specs.Performs.{parameter_spots, put_all}
use Rattle.pw_tree_meaning.specs.Statements.{body}

-- the most PERFORMs that are active in a program, and CALLs in a terminal
abbrev pub most_performs : ℕ
most_performs = 64

-- CALLs that may be active in a terminal
abbrev pub most_calls : ℕ
most_calls = 8

-- one turn of a paragraph, from which control returns; d: how many more PERFORMs may be active
abbrev pub performed : ℕ → Setting → (ℕ → List (List ℕ) → ProgramState → Out) → Word → ProgramState → Out
performed zero setting call name s = faults 202 s
performed (suc d) setting call name s =
    body setting (performed d setting call) call (body_named setting.program name) s

-- the paragraphs from one on: each runs on into the next
abbrev pub flow : Setting → (Word → ProgramState → Out) → (ℕ → List (List ℕ) → ProgramState → Out)
    → List Paragraph → ProgramState → Out
flow setting perform call [] s = Goes s
flow setting perform call (paragraph ∷ paragraphs) s =
    then_do (body setting perform call paragraph.body s) (flow setting perform call paragraphs)

-- a program from its first paragraph on
abbrev pub program_run : Setting → (ℕ → List (List ℕ) → ProgramState → Out) → ProgramState → Out
program_run setting call s =
    flow setting (performed most_performs setting call) call setting.program.paragraphs s

-- a program of a terminal
abbrev pub setting_of : DeckModel → ℕ → Setting
setting_of deck q = record {
  deck = deck;
  program = program_at deck.programs q;
  first = first_screen deck.programs q;
  is_server = false;
  message = [];
  alone = false;
}

-- A called program starts with its initial storage, into which its arguments are copied. n: how
-- many more CALLs may be active. used: the storage of the programs that are active.
abbrev pub called : ℕ → DeckModel → ℕ → ℕ → List (List ℕ) → ProgramState → Out
called zero deck used q arguments s = faults 202 s
called (suc n) deck used q arguments s =
    let callee = program_at deck.programs q in
    let active = used + storage_size callee in
    if nat_lt most_active active then faults 208 s
    else program_run (setting_of deck q) (called n deck active)
    (record s { store = put_all (parameter_spots callee) arguments (initial_store callee) })

-- the end of a program that no other called acts as EXIT PROGRAM, which acts as STOP RUN
abbrev pub program_ended : Setting → Out → Out
program_ended setting (Goes s) = stop setting s
program_ended setting (Leaves s) = stop setting s
program_ended setting (Asks v s) = Asks v s

-- ---- terminals

-- a run at its start
abbrev pub start : Program → List Answer → ProgramState
start program answers = record {
  count = 0;
  answers = answers;
  store = initial_store program;
  registers = no_registers;
  in_unit = false;
  screen = blank_cells;
  files = λ f. [];
}

-- the k-th entry line
abbrev pub entry_at : List EntryLineModel → ℕ → EntryLineModel
entry_at lines k = unwrap_or (slice_get lines (k - 1)) (record { key = 0; fields = [] })

-- what an answer of a path tells the program
abbrev pub told : List EntryLineModel → PathAnswer → Answer
told lines Shown = answer.Shown
told lines (path.Entry k) = answer.Entry (entry_at lines k)
told lines (Begun r) = answer.Begun r
told lines (Replied reply) = answer.Replied reply
told lines (Failed code) = answer.Failed code
told lines Ended = answer.Ended
told lines Dropped = answer.Dropped

-- the first program of a terminal, by its number, with its entry lines, after a path
abbrev pub run_after : DeckModel → ℕ → List EntryLineModel → List PathAnswer → Out
run_after deck q lines path =
    let setting = setting_of deck q in
    program_ended setting
    (program_run setting (called most_calls deck (storage_size setting.program))
    (start setting.program (map (told lines) path)))

-- what a run asks
abbrev pub verb_of : Out → Verb
verb_of (Asks v s) = v
verb_of _ = verb.Stop

-- the cells of the screen at what it asks
abbrev pub asked_screen : Out → List ℕ
asked_screen (Goes s) = s.screen
asked_screen (Leaves s) = s.screen
asked_screen (Asks v s) = s.screen

-- ---- servers

-- the setting of a server that runs on a message
abbrev pub server_setting : DeckModel → ℕ → List ℕ → Bool → Setting
server_setting deck q message alone = record {
  deck = deck;
  program = program_at deck.servers q;
  first = 0;
  is_server = true;
  message = message;
  alone = alone;
}

-- a server, by its number, at its message: with the answers of its file operations, or by itself on
-- files. It has no CALL.
abbrev pub server_run : Setting → ProgramState → Out
server_run setting s = program_ended setting (program_run setting (λ q arguments t. faults 202 t) s)

-- a file's answer, as a program is given it
abbrev pub file_told : FileResult → Answer
file_told found = answer.FileDone found.status found.content

-- the next file operation, reply or fault behind a list of file answers
abbrev pub operations : DeckModel → ℕ → List ℕ → List FileResult → Verb
operations deck q message done =
    let setting = server_setting deck q message false in
    verb_of (server_run setting (start setting.program (map file_told done)))

-- what a server's run by itself comes to
abbrev pub served_by : Out → Served
served_by (Asks (verb.Reply reply) s) = served.Reply reply s.files
served_by (Asks (verb.Fault code) s) = served.Fault code
served_by _ = served.Fault 0

-- what a server comes to by itself on a message and files
abbrev pub served_alone : DeckModel → ℕ → List ℕ → (ℕ → List (List ℕ)) → Served
served_alone deck q message files =
    let setting = server_setting deck q message true in
    served_by (server_run setting (record (start setting.program []) { files = files }))
