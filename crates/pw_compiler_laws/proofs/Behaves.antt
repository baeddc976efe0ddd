-- What the codes of a deck's programs answer, and how its system behaves.
use Rattle.std.proofs.Common.{◌≡◌, ℕ, ◌<◌, false, List, length, map, slice_get, Option, Some, None, refl, ap, ◌∙◌}
use Rattle.pw_code.specs.Entry.{EntryLineModel}
use Rattle.pw_code.specs.Valid.{IsValid}
use Rattle.pw_code.specs.declared.lock.LockRule.{LockRule}
use Rattle.pw_code.specs.declared.system.ClassInfo.{ClassInfo}
use Rattle.pw_code.specs.declared.system.System.{System}
use Rattle.pw_code.specs.declared.system.TermInfo.{TermInfo}
use Rattle.pw_code.specs.declared.verb.Answer.{Answer}
use Rattle.pw_code_meaning.specs.Config.{Config, starting, starting_server}
use Rattle.pw_code_meaning.specs.OfSystem as code
use Rattle.pw_code_meaning.specs.Steps.{verb_of}
use Rattle.pw_code_meaning.proofs.Bounds.{after_terminal, after_server}
use Rattle.pw_onecopy.specs.Path.{PathAnswer, FileResult}
use Rattle.pw_tree_meaning.specs.OfDeck as tree
use Rattle.pw_tree_meaning.specs.Program.{DeckModel}
use Rattle.pw_tree_meaning.specs.Runs as runs
use Rattle.pw_tree_meaning.specs.Runs.{told, file_told, run_after, server_setting, server_run, start}
use Rattle.pw_tree_meaning.specs.Setting.{Setting}
use Rattle.pw_tree_meaning.specs.Sound.{IsSoundDeck, IsSoundTerminal, IsSoundClass}
use Rattle.pw_tree_meaning.specs.State.{Out}
use Rattle.pw_tree_meaning.proofs.Resolved.{each-got}
use Rattle.pw_compiler_laws.specs.Answered.{AnswersAs}
use Rattle.pw_compiler_laws.specs.Premises.{AreFitting}
use Rattle.pw_compiler_laws.specs.Systems.{system_of}
use Rattle.pw_compiler_laws.proofs.Leading.{Ends}
use Rattle.pw_compiler_laws.proofs.Programs.{terminal_does, server_does}
use Rattle.pw_compiler_laws.proofs.Decks.{all-programs, all-servers}

answers-as : (system : System) (c : Config) (answers : List Answer) (out : Out) → Ends system c answers (runs.verb_of out) (runs.asked_screen out) → AnswersAs system c answers out
answers-as system c answers out f = record { at = f.last; comes = (f.steps, f.comes); stands = f.stands; asks = f.asks_it; shows = f.shows }

pub requester-answers : (rule : LockRule) (deck : DeckModel) → IsSoundDeck deck → AreFitting deck → (q : ℕ) → q < length deck.programs → (lines : List EntryLineModel) (path : List PathAnswer)
    → AnswersAs (system_of rule deck) (starting (system_of rule deck) q) (map (told lines) path) (run_after deck q lines path)
requester-answers rule deck sound fitting q lt lines path =
    answers-as (system_of rule deck) (starting (system_of rule deck) q) (map (told lines) path) (run_after deck q lines path)
    (terminal_does (system_of rule deck) deck (all-programs rule deck sound fitting) q lt (map (told lines) path))

-- over any answers of files
server-by : (rule : LockRule) (deck : DeckModel) → IsSoundDeck deck → AreFitting deck → (q : ℕ) → q < length deck.servers → (message : List ℕ) (answers : List Answer)
    → let setting : Setting = server_setting deck q message false in
    AnswersAs (system_of rule deck) (starting_server (system_of rule deck) q message) answers (server_run setting (start setting.program answers))
server-by rule deck sound fitting q lt message answers =
    let setting : Setting = server_setting deck q message false in
    answers-as (system_of rule deck) (starting_server (system_of rule deck) q message) answers (server_run setting (start setting.program answers))
    (server_does (system_of rule deck) deck (all-programs rule deck sound fitting) q (all-servers rule deck sound q lt) message answers)

pub server-answers : (rule : LockRule) (deck : DeckModel) → IsSoundDeck deck → AreFitting deck → (q : ℕ) → q < length deck.servers → (message : List ℕ) (done : List FileResult)
    → let setting : Setting = server_setting deck q message false in
    AnswersAs (system_of rule deck) (starting_server (system_of rule deck) q message) (map file_told done) (server_run setting (start setting.program (map file_told done)))
server-answers rule deck sound fitting q lt message done = server-by rule deck sound fitting q lt message (map file_told done)

-- ---- of a system that is valid

module _ (rule : LockRule) (deck : DeckModel) (sound : IsSoundDeck deck) (fitting : AreFitting deck) (valid : IsValid (system_of rule deck)) where
  abbrev system : System
  system = system_of rule deck

  -- a terminal after a path
  asks-same : (o : Option TermInfo) → ((terminal : TermInfo) → o ≡ Some terminal → terminal.program < length deck.programs) → (path : List PathAnswer)
      → code.asked_of system o path ≡ tree.asked_by deck o path
  asks-same None there path = refl
  asks-same (Some terminal) there path =
      let a = requester-answers rule deck sound fitting terminal.program (there terminal refl) terminal.entries path in
      ap (verb_of system) (after_terminal system terminal.program (map (told terminal.entries) path) a.at valid a.comes a.stands) ∙ a.asks

  image-same : (o : Option TermInfo) → ((terminal : TermInfo) → o ≡ Some terminal → terminal.program < length deck.programs) → (path : List PathAnswer)
      → code.image_of system o path ≡ tree.image_by deck o path
  image-same None there path = refl
  image-same (Some terminal) there path =
      let a = requester-answers rule deck sound fitting terminal.program (there terminal refl) terminal.entries path in
      ap (λ (c : Config). c.rest.screen) (after_terminal system terminal.program (map (told terminal.entries) path) a.at valid a.comes a.stands) ∙ a.shows

  -- a server on a message
  ops-same : (o : Option ClassInfo) → ((class : ClassInfo) → o ≡ Some class → class.server < length deck.servers) → (message : List ℕ) (done : List FileResult)
      → code.operation_of system o message done ≡ tree.ops_by deck o message done
  ops-same None there message done = refl
  ops-same (Some class) there message done =
      let a = server-answers rule deck sound fitting class.server (there class refl) message done in
      ap (verb_of system) (after_server system class.server message (map file_told done) a.at valid a.comes a.stands) ∙ a.asks

  program-there : (t : ℕ) (terminal : TermInfo) → slice_get deck.terminals t ≡ Some terminal → terminal.program < length deck.programs
  program-there t terminal got = (each-got (IsSoundTerminal deck) deck.terminals t terminal sound.terminals got).program

  pub server-there : (c : ℕ) (class : ClassInfo) → slice_get deck.classes c ≡ Some class → class.server < length deck.servers
  server-there c class got = (each-got (IsSoundClass deck) deck.classes c class sound.classes got).server

  pub ask-is : (t : ℕ) (path : List PathAnswer) → code.asked_of system (slice_get deck.terminals t) path ≡ tree.ask deck t path
  ask-is t path = asks-same (slice_get deck.terminals t) (program-there t) path

  pub image-is : (t : ℕ) (path : List PathAnswer) → code.image_of system (slice_get deck.terminals t) path ≡ tree.image deck t path
  image-is t path = image-same (slice_get deck.terminals t) (program-there t) path

  pub ops-is : (c : ℕ) (message : List ℕ) (done : List FileResult) → code.operation_of system (slice_get deck.classes c) message done ≡ tree.ops deck c message done
  ops-is c message done = ops-same (slice_get deck.classes c) (server-there c) message done
