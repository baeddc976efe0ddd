-- The behaviour of a deck: what its terminals ask and show, and what its servers do.
use Rattle.std.specs.Prelude.{ℕ, List, [], length, fold, slice_get, Option, Some, None}
use Rattle.pw_code.specs.declared.lock.LockRule.{LockRule}
use Rattle.pw_code.specs.declared.file.FileInfo.{FileInfo}
use Rattle.pw_code.specs.declared.system.ClassInfo.{ClassInfo}
use Rattle.pw_code.specs.declared.system.TermInfo.{TermInfo}
use Rattle.pw_code.specs.declared.verb.Verb.{Verb}
use Rattle.pw_code.specs.declared.verb.Verb.TheVariants as verb
use Rattle.pw_files.specs.Records.{with_record}
use Rattle.pw_onecopy.specs.Path.{PathAnswer, FileResult}
use Rattle.pw_onecopy.specs.Behaviour.{Behaviour, Served}
use Rattle.pw_onecopy.specs.Behaviour as served
use Rattle.pw_tree_meaning.specs.Program.{DeckModel, key_length}
use Rattle.pw_tree_meaning.specs.Runs.{run_after, verb_of, asked_screen, operations, served_alone}

-- a number of a terminal, and 0 where there is none
abbrev pub number_by : (TermInfo → ℕ) → Option TermInfo → ℕ
number_by of None = 0
number_by of (Some terminal) = of terminal

-- the next verb of a terminal's program after a path
abbrev pub asked_by : DeckModel → Option TermInfo → List PathAnswer → Verb
asked_by deck None path = verb.Stop
asked_by deck (Some terminal) path = verb_of (run_after deck terminal.program terminal.entries path)

-- the next verb of a terminal after a path
abbrev pub ask : DeckModel → ℕ → List PathAnswer → Verb
ask deck t path = asked_by deck (slice_get deck.terminals t) path

-- the cells of its screen after the path
abbrev pub image_by : DeckModel → Option TermInfo → List PathAnswer → List ℕ
image_by deck None path = []
image_by deck (Some terminal) path =
    asked_screen (run_after deck terminal.program terminal.entries path)

-- the cells of a terminal's screen after a path
abbrev pub image : DeckModel → ℕ → List PathAnswer → List ℕ
image deck t path = image_by deck (slice_get deck.terminals t) path

-- the processes of a class
abbrev pub processes_by : Option ClassInfo → ℕ
processes_by None = 0
processes_by (Some class) = class.processes

-- the next verb of a class's server on a message, behind a list of file answers
abbrev pub ops_by : DeckModel → Option ClassInfo → List ℕ → List FileResult → Verb
ops_by deck None message done = verb.Fault 0
ops_by deck (Some class) message done = operations deck class.server message done

-- what a server of a class asks on a message behind file answers
abbrev pub ops : DeckModel → ℕ → List ℕ → List FileResult → Verb
ops deck c message done = ops_by deck (slice_get deck.classes c) message done

-- what a class's server comes to on a message and files, run by itself
abbrev pub serve_by : DeckModel → Option ClassInfo → List ℕ → (ℕ → List (List ℕ)) → Served
serve_by deck None message files = served.Fault 0
serve_by deck (Some class) message files = served_alone deck class.server message files

-- what a server of a class comes to by itself on a message and files
abbrev pub serve : DeckModel → ℕ → List ℕ → (ℕ → List (List ℕ)) → Served
serve deck c message files = serve_by deck (slice_get deck.classes c) message files

-- the records of a file in the order of their keys
abbrev pub records_by : Option FileInfo → List (List ℕ)
records_by None = []
records_by (Some file) = fold (with_record file.key) [] file.records

-- the behaviour of a deck under a rule of locking
abbrev pub behaviour : LockRule → DeckModel → Behaviour
behaviour rule deck = record {
  terminals = length deck.terminals;
  pairs = length deck.tcps;
  pair_of = λ t. number_by (λ terminal. terminal.tcp) (slice_get deck.terminals t);
  max_restarts = λ t. number_by (λ terminal. terminal.max_restarts) (slice_get deck.terminals t);
  entries = λ t. number_by (λ terminal. length terminal.entries) (slice_get deck.terminals t);
  ask = ask deck;
  image = image deck;
  classes = length deck.classes;
  processes = λ c. processes_by (slice_get deck.classes c);
  ops = ops deck;
  serve = serve deck;
  files = length deck.files;
  key_length = key_length deck;
  records = λ f. records_by (slice_get deck.files f);
  rule = rule;
  script = deck.script;
}
