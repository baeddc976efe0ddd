-- Small programs by their texts, and what they ask and show.
use Rattle.std.specs.Prelude.{ℕ, ◌*◌, Bool, true, false, List, [], ◌∷◌, ◌++◌, map, take, drop, codes, Result, Ok, Err}
use Rattle.pw_base.specs.declared.fault.Fault.{Fault}
use Rattle.pw_words.specs.Words.{Word}
use Rattle.pw_text.specs.declared.token.Token.{Token}
use Rattle.pw_text.specs.Tokens.{items_of, tokens_in}
use Rattle.pw_data.specs.Layouts.{Laid, layout_of}
use Rattle.pw_forms.specs.declared.statement.Paragraph.{Paragraph}
use Rattle.pw_forms.specs.declared.statement.Procedure.{Procedure}
use Rattle.pw_forms.specs.Procedures.{procedure_of}
use Rattle.pw_code.specs.Entry.{EntryLineModel}
use Rattle.pw_code.specs.declared.field.ScreenTable.{ScreenTable}
use Rattle.pw_code.specs.declared.file.FileInfo.{FileInfo}
use Rattle.pw_code.specs.declared.system.ClassInfo.{ClassInfo}
use Rattle.pw_code.specs.declared.verb.Verb.{Verb}
use Rattle.pw_onecopy.specs.Path.{PathAnswer, FileResult}
use Rattle.pw_onecopy.specs.Path as path
use Rattle.pw_onecopy.specs.Behaviour.{Served}
use Rattle.pw_onecopy.specs.Behaviour as served
use Rattle.pw_terminal.specs.Screen.{trimmed}
use Rattle.pw_tree_meaning.specs.Program.{DeckModel, Program}
use Rattle.pw_tree_meaning.specs.Runs.{run_after, verb_of, asked_screen, operations, served_alone, setting_of, server_setting, server_run, program_run, called, most_calls, start, program_ended, file_told}

-- the tokens of a text
abbrev pub tokens_of_text : List ℕ → List Token
tokens_of_text text = tokens_in (items_of text 1)

-- the layout of data, and the paragraphs of a procedure, where they have no fault
abbrev pub laid_by : Result Laid Fault → Laid
laid_by (Ok laid) = laid
laid_by (Err fault) = record { items = []; storage = [] }

-- the paragraphs of a procedure that has no fault, and none else
abbrev pub paragraphs_by : Result Procedure Fault → List Paragraph
paragraphs_by (Ok procedure) = procedure.paragraphs
paragraphs_by (Err fault) = []

-- a program of a name with these USING names, data and procedure
abbrev pub sample_program : Bool → Word → List Word → List ℕ → List ℕ → Program
sample_program server name using data_text text = record {
  name = name;
  layout = laid_by (layout_of data_text (tokens_of_text data_text) server);
  screens = [];
  parameters = using;
  paragraphs = paragraphs_by (procedure_of server text (tokens_of_text text));
}

-- the class STORE of the first server, and the class OTHER
abbrev pub sample_classes : List ClassInfo
sample_classes =
    (record { name = codes "OTHER"; server = 0; processes = 1 })
    ∷ (record { name = codes "STORE"; server = 0; processes = 1 }) ∷ []

-- the file STOCK with keys of 2 characters
abbrev pub sample_files : List FileInfo
sample_files =
    (record { name = codes "STOCK"; key = 2; records = codes "A10005" ∷ codes "B10007" ∷ [] }) ∷ []

-- a deck of these programs and servers
abbrev pub deck_of : List Program → List Program → DeckModel
deck_of programs servers = record {
  programs = programs;
  servers = servers;
  classes = sample_classes;
  files = sample_files;
  tcps = [];
  terminals = [];
  script = [];
}

-- a deck of one requester, MAIN
abbrev pub main_deck : List ℕ → List ℕ → DeckModel
main_deck data_text text = deck_of (sample_program false (codes "MAIN") [] data_text text ∷ []) []

-- row 24 without the spaces at its end, and the verb, after a path without entries
abbrev pub says_after : List PathAnswer → List ℕ → List ℕ → List ℕ
says_after path data_text text =
    trimmed (drop 1840 (asked_screen (run_after (main_deck data_text text) 0 [] path)))

-- the verb of MAIN after a path
abbrev pub asks_after : List PathAnswer → List ℕ → List ℕ → Verb
asks_after path data_text text = verb_of (run_after (main_deck data_text text) 0 [] path)

-- the same at the start
abbrev pub says : List ℕ → List ℕ → List ℕ
says data_text text = says_after [] data_text text

-- the verb of MAIN at the start
abbrev pub asks : List ℕ → List ℕ → Verb
asks data_text text = asks_after [] data_text text

-- what a server asks on the message M behind file answers
abbrev pub serves : List FileResult → List ℕ → List ℕ → Verb
serves done data_text text =
    operations (deck_of [] (sample_program true (codes "S") [] data_text text ∷ [])) 0 (codes "M") done

-- ---- two programs

-- a deck of MAIN and of SUB, which has these USING names
abbrev pub calling : List ℕ → List ℕ → List Word → List ℕ → List ℕ → DeckModel
calling data_text text using sub_data sub_text =
    deck_of (sample_program false (codes "MAIN") [] data_text text
    ∷ sample_program false (codes "SUB") using sub_data sub_text ∷ []) []

-- row 24 and the verb of MAIN at the start
abbrev pub says_in : DeckModel → List ℕ
says_in deck = trimmed (drop 1840 (asked_screen (run_after deck 0 [] [])))

-- the verb of the deck's first program at the start
abbrev pub asks_in : DeckModel → Verb
asks_in deck = verb_of (run_after deck 0 [] [])

-- ---- a program with a screen

-- a deck of MAIN with the screen ASK
abbrev pub screen_deck : List ScreenTable → List ℕ → List ℕ → DeckModel
screen_deck screens data_text text =
    deck_of (record (sample_program false (codes "MAIN") [] data_text text) { screens = screens } ∷ [])
    []

-- the verb and a row, from 0, after a path of these entry lines
abbrev pub asks_with : DeckModel → List EntryLineModel → List PathAnswer → Verb
asks_with deck lines path = verb_of (run_after deck 0 lines path)

-- a row, from 0, of the screen after a path of these entry lines
abbrev pub row_with : ℕ → DeckModel → List EntryLineModel → List PathAnswer → List ℕ
row_with row deck lines path =
    trimmed (take 80 (drop (row * 80) (asked_screen (run_after deck 0 lines path))))

-- ---- a server by itself

-- a deck of one server, S
abbrev pub server_deck : List ℕ → List ℕ → DeckModel
server_deck data_text text = deck_of [] (sample_program true (codes "S") [] data_text text ∷ [])

-- what it comes to on a message and on records of STOCK
abbrev pub comes_to_on : List ℕ → List (List ℕ) → List ℕ → List ℕ → Served
comes_to_on message records data_text text =
    served_alone (server_deck data_text text) 0 message (λ f. records)

-- what a server comes to on the message M and on records of STOCK
abbrev pub comes_to : List (List ℕ) → List ℕ → List ℕ → Served
comes_to records data_text text = comes_to_on (codes "M") records data_text text

-- the reply that a server comes to
abbrev pub reply_of : Served → List ℕ
reply_of (served.Reply reply files) = reply
reply_of (served.Fault code) = []

-- the records of STOCK that it leaves
abbrev pub stock_of : Served → List (List ℕ)
stock_of (served.Reply reply files) = files 0
stock_of (served.Fault code) = []

-- ---- whole paths

-- row 24 of each refresh on a path, where the path goes on from these answers
abbrev pub rows_from : DeckModel → List EntryLineModel → List PathAnswer → List PathAnswer → List (List ℕ)
rows_from deck lines before [] = []
rows_from deck lines before (path.Shown ∷ rest) =
    row_with 23 deck lines before ∷ rows_from deck lines (before ++ path.Shown ∷ []) rest
rows_from deck lines before (answer ∷ rest) = rows_from deck lines (before ++ answer ∷ []) rest

-- the same of a whole path, and the verb at its end
abbrev pub story : DeckModel → List EntryLineModel → List PathAnswer → List (List ℕ) × Verb
story deck lines path = (rows_from deck lines [] path, asks_with deck lines path)

-- a screen without fields
abbrev pub bare_screen : ScreenTable
bare_screen = record { name = codes "S"; fields = [] }

-- the deck with the bare screen in each of its programs
abbrev pub with_bare_screen : Program → Program
with_bare_screen program = record program { screens = bare_screen ∷ [] }

-- a deck whose programs have a screen without fields besides
abbrev pub with_bare_screens : DeckModel → DeckModel
with_bare_screens deck = record deck { programs = map with_bare_screen deck.programs }

-- ---- runs that have counted so many statements

-- the verb of MAIN where so many statements were counted before
abbrev pub asks_counting : ℕ → List ℕ → List ℕ → Verb
asks_counting count data_text text =
    let setting = setting_of (main_deck data_text text) 0 in
    verb_of (program_ended setting (program_run setting (called most_calls setting.deck 0)
    (record (start setting.program []) { count = count })))

-- the same of a server, behind file answers
abbrev pub serves_counting : ℕ → List FileResult → List ℕ → List ℕ → Verb
serves_counting count done data_text text =
    let setting = server_setting (server_deck data_text text) 0 (codes "M") false in
    verb_of
    (server_run setting (record (start setting.program (map file_told done)) { count = count }))
