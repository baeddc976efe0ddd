-- The tables of a deck's system. Its programs stand beside them.
use Rattle.std.specs.Prelude.{ℕ, List, [], ◌∷◌, map, Bool, position, Option, None, Some, if◌then◌else◌}
use Rattle.std.specs.List.{filter}
use Rattle.std.specs.Option.{is_some}
use Rattle.std.specs.Str.{bytes_eq}
use Rattle.pw_code.specs.Entry.{EntryLineModel}
use Rattle.pw_code.specs.declared.file.FileInfo.{FileInfo}
use Rattle.pw_code.specs.declared.lock.LockRule.{LockRule}
use Rattle.pw_code.specs.declared.system.ClassInfo.{ClassInfo}
use Rattle.pw_code.specs.declared.system.System.{System}
use Rattle.pw_code.specs.declared.system.TermInfo.{TermInfo}
use Rattle.pw_pathcom.specs.declared.commands.ClassCommand.{ClassCommand}
use Rattle.pw_pathcom.specs.declared.commands.Commands.{Commands}
use Rattle.pw_pathcom.specs.declared.commands.TermCommand.{TermCommand}
use Rattle.pw_words.specs.Words.{Word}
use Rattle.pw_deck_tables.specs.declared.objects.TermEntries.{TermEntries}

-- the names of the pairs, and of the classes
abbrev pub tcp_names : Commands → List Word
tcp_names commands = map (λ tcp. tcp.name) commands.tcps

-- the names of the classes, in their order
abbrev pub class_names : Commands → List Word
class_names commands = map (λ class. class.name) commands.classes

-- the terminal is started
abbrev pub is_started : TermCommand → Bool
is_started terminal = is_some terminal.started

-- the number of a name among names; 0 where it is none of them
abbrev pub or_first : Option ℕ → ℕ
or_first None = 0
or_first (Some place) = place

-- the number of a name among names, 0 where it is none of them
abbrev pub number_among_names : List Word → Word → ℕ
number_among_names names word = or_first (position (λ name. bytes_eq name word) names)

-- a class, by the names of the programs of servers
abbrev pub class_from_command : List Word → ClassCommand → ClassInfo
class_from_command servers class = record { name = class.name; server = number_among_names servers class.program; processes = class.processes }

-- a terminal before its entries, by the names of the pairs and of the programs
abbrev pub terminal_of : List Word → List Word → TermCommand → TermInfo
terminal_of tcps programs terminal = record {
  name = terminal.name;
  tcp = number_among_names tcps terminal.tcp;
  program = number_among_names programs terminal.program;
  max_restarts = terminal.max_restarts;
  entries = [];
}

-- The tables before the entries of terminals, by the commands, the names of programs and the files. Terminals are those
-- that are started, and pairs and classes those that are added, in the order of ADD.
abbrev pub tables : Commands → List Word → List Word → List FileInfo → LockRule → System
tables commands programs servers files rule = record {
  programs = [];
  servers = [];
  screens = [];
  classes = map (class_from_command servers) commands.classes;
  files = files;
  tcps = tcp_names commands;
  terminals = map (terminal_of (tcp_names commands) programs) (filter is_started commands.terminals);
  rule = rule;
}

-- the entries of a terminal; a terminal without an ENTRIES section has none
unfoldable pub entries_for : List TermEntries → Word → List EntryLineModel
entries_for [] name = []
entries_for (section ∷ rest) name = if bytes_eq section.name name then section.entries else entries_for rest name

-- a terminal with its entries
abbrev pub with_entries : List TermEntries → TermInfo → TermInfo
with_entries sections terminal = record terminal { entries = entries_for sections terminal.name }

-- a system whose terminals have their entries
abbrev pub with_terminal_entries : List TermEntries → System → System
with_terminal_entries sections system = record system { terminals = map (with_entries sections) system.terminals }
