-- Names of what is not there, and STARTs that may not be: what is looked at once all sections are read.
use Rattle.std.specs.Prelude.{ℕ, List, [], ◌∷◌, ◌++◌, flat_map, not, Bool, Option, None, Some, Result, Ok, Err}
use Rattle.std.specs.List.{list_any}
use Rattle.std.specs.Str.{bytes_eq}
use Rattle.pw_base.specs.First.{refusal_of, least, unless}
use Rattle.pw_base.specs.declared.fault.Fault.{Fault}
use Rattle.pw_base.specs.declared.fault.Refusal.{Refusal}
use Rattle.pw_base.specs.declared.fault_code.FaultCode.TheVariants.{UnknownObject}
use Rattle.pw_code.specs.declared.lock.LockRule.{LockRule}
use Rattle.pw_code.specs.declared.lock.LockRule.TheVariants.{ReadersShare}
use Rattle.pw_code.specs.declared.system.System.{System}
use Rattle.pw_event.specs.declared.event.Event.{Event}
use Rattle.pw_event.specs.declared.script.FailLine.{FailLine}
use Rattle.pw_sections.specs.Lines.{lines}
use Rattle.pw_sections.specs.Steps.{◌>>=◌, only_if, fault_at}
use Rattle.pw_pathcom.specs.Objects.{unknown, bad_starts}
use Rattle.pw_pathcom.specs.declared.commands.Commands.{Commands}
use Rattle.pw_log_lines.specs.Fail.{failures_of}
use Rattle.pw_log_lines.specs.Log.{rule_of, version_of, events_of}
use Rattle.pw_words.specs.Words.{Word}
use Rattle.pw_deck_tables.specs.Pieces.{DeckPieceModel}
use Rattle.pw_deck_tables.specs.Tables.{tables, with_terminal_entries}
use Rattle.pw_deck_tables.specs.declared.objects.Objects.{Objects}
use Rattle.pw_deck_tables.specs.declared.objects.TermEntries.{TermEntries}
use Rattle.pw_deck_tables.specs.declared.told.DeckTables.{DeckTables}

-- a reading as its fault refuses it
abbrev pub refusing : {A : Type 0} → Result A Fault → Result A Refusal
refusing (Ok value) = Ok value
refusing (Err fault) = Err (refusal_of fault)

-- the failure lines of a piece, in a system
abbrev pub failures_in : System → Option DeckPieceModel → Result (List FailLine) Fault
failures_in system None = Ok []
failures_in system (Some piece) = failures_of system piece.bytes piece.first_line

-- the entries of a log, in a system
abbrev pub events_in : System → Option DeckPieceModel → Result (List Event) Fault
events_in system None = Ok []
events_in system (Some piece) = events_of system piece.bytes piece.first_line

-- the version of a log: 2 where there is none
abbrev pub log_version : Option DeckPieceModel → ℕ
log_version None = 2
log_version (Some piece) = version_of piece.bytes piece.first_line

-- the tables of what a deck says, before the entries of terminals, by the names of its programs of terminals and of
-- servers
abbrev pub tables_of : Objects → List Word → List Word → LockRule → System
tables_of objects programs servers rule = tables objects.commands programs servers objects.files rule

-- the failure lines of a deck
abbrev pub fails_of : Objects → List Word → List Word → Result (List FailLine) Fault
fails_of objects programs servers = failures_in (tables_of objects programs servers ReadersShare) objects.fail

-- the entries of its log, which are read by the rule of the log's version
abbrev pub log_of : Objects → List Word → List Word → Result (List Event) Fault
log_of objects programs servers = events_in (tables_of objects programs servers (rule_of (log_version objects.log))) objects.log

-- a terminal of this name is in the system
abbrev pub has_terminal : System → Word → Bool
has_terminal system name = list_any (λ terminal. bytes_eq terminal.name name) system.terminals

-- an ENTRIES section of a terminal that is not in the system
abbrev pub unknown_terminal : System → TermEntries → List Fault
unknown_terminal system section = only_if (not (has_terminal system section.name)) (fault_at section.line UnknownObject)

-- the fault of a reading, if it has one
abbrev pub fault_in : {A : Type 0} → Result A Fault → List Fault
fault_in (Ok value) = []
fault_in (Err fault) = fault ∷ []

-- names of what is not there: in ADDs, in ENTRIES lines, in failure lines and in the log
abbrev pub all_unknown : Objects → List Word → List Word → List Fault
all_unknown objects programs servers =
    unknown objects.commands programs servers
    ++ (flat_map (unknown_terminal (tables_of objects programs servers ReadersShare)) objects.entries
    ++ (fault_in (fails_of objects programs servers)
    ++ fault_in (log_of objects programs servers)))

-- the first of them
abbrev pub known : Objects → List Word → List Word → Result (Unit {0}) Fault
known objects programs servers = unless (least None (all_unknown objects programs servers)) tt

-- the STARTs of a piece that may not be
abbrev pub bad_starts_in : Commands → Option DeckPieceModel → List Fault
bad_starts_in commands None = []
bad_starts_in commands (Some piece) = bad_starts commands piece.first_line (lines piece.bytes)

-- the first of them
abbrev pub startable : Objects → Result (Unit {0}) Fault
startable objects = unless (least None (bad_starts_in objects.commands objects.pathcom)) tt

-- what a deck says besides its programs
abbrev pub told_with : Objects → List Word → List Word → List FailLine → List Event → DeckTables
told_with objects programs servers fails events = record {
  system = with_terminal_entries objects.entries (tables_of objects programs servers ReadersShare);
  script = record { lines = fails };
  log = events;
  version = log_version objects.log;
}

-- that, by the names of its programs, or its first fault: names of what is not there, and then STARTs that may not be
abbrev pub told_of : Objects → List Word → List Word → Result DeckTables Fault
told_of objects programs servers = do
  done ← known objects programs servers
  done ← startable objects
  fails ← fails_of objects programs servers
  events ← log_of objects programs servers
  Ok (told_with objects programs servers fails events)
