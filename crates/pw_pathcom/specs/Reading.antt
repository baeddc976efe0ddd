-- The commands of a section, taken one after the other.
use Rattle.std.specs.Prelude.{ℕ, ◌+◌, List, [], ◌∷◌, ◌++◌, map, length, Bool, false, true, ◌&&◌, ◌||◌, ◌==◌, nat_le, Option, None, Some, Result, Ok, if◌then◌else◌}
use Rattle.std.specs.List.{list_any}
use Rattle.std.specs.Str.{bytes_eq}
use Rattle.pw_base.specs.Characters.{asterisk}
use Rattle.pw_base.specs.declared.fault.Fault.{Fault}
use Rattle.pw_base.specs.declared.fault_code.FaultCode.TheVariants.{BadCommand, AddedTwice, OutOfRange}
use Rattle.pw_code.specs.Limits.{most_tcps, most_classes, most_terminals, most_processes, most_restarts}
use Rattle.pw_sections.specs.Lines.{lines}
use Rattle.pw_sections.specs.Steps.{◌>>=◌, refused, or_refused}
use Rattle.pw_sections.specs.Words.{words, name_in, word_number}
use Rattle.pw_words.specs.Words.{Word}
use Rattle.pw_pathcom.specs.declared.commands.ClassCommand.{ClassCommand}
use Rattle.pw_pathcom.specs.declared.commands.Commands.{Commands}
use Rattle.pw_pathcom.specs.declared.commands.Started.{Started}
use Rattle.pw_pathcom.specs.declared.commands.TermCommand.{TermCommand}
use Rattle.pw_pathcom.specs.declared.reading.CommandReading.{CommandReading}
use Rattle.pw_pathcom.specs.declared.reading.Values.{Values}
use Rattle.pw_pathcom.specs.declared.verb.Object.{Object}
use Rattle.pw_pathcom.specs.declared.verb.Object.TheVariants as object
use Rattle.pw_pathcom.specs.declared.verb.CommandVerb.{CommandVerb}
use Rattle.pw_pathcom.specs.declared.verb.CommandVerb.TheVariants as verb
use Rattle.pw_pathcom.specs.Verbs.{command_of}

-- what is set before the first command: no name, 5 restarts and 1 process
abbrev pub default_values : Values
default_values = record { tcp = []; initial = []; max_restarts = 5; program = []; processes = 1 }

-- nothing is added
abbrev pub no_commands : Commands
no_commands = record { tcps = []; classes = []; terminals = [] }

-- where a reading starts
abbrev pub starting : CommandReading
starting = record { commands = no_commands; values = default_values }

-- a reading with other values
abbrev pub with_values : CommandReading → Values → CommandReading
with_values reading values = record reading { values = values }

-- a reading with other commands
abbrev pub with_commands : CommandReading → Commands → CommandReading
with_commands reading commands = record reading { commands = commands }

-- the name that an operand is
abbrev pub named : ℕ → Word → Result Word Fault
named line operand = or_refused line BadCommand (name_in operand)

-- a number that is not in its range is refused
abbrev pub checked : ℕ → ℕ → ℕ → ℕ → Result ℕ Fault
checked line low high n = if nat_le low n && nat_le n high then Ok n else refused line OutOfRange

-- the number that an operand is, in its range
abbrev pub ranged : ℕ → ℕ → ℕ → Word → Result ℕ Fault
ranged line low high operand = or_refused line BadCommand (word_number operand) >>= (λ n. checked line low high n)

-- an ADD is refused where the name is there, and where there are as many as may be
abbrev pub admitted : ℕ → Bool → Bool → Result (Unit {0}) Fault
admitted line is_there is_full =
    if is_there then refused line AddedTwice else (if is_full then refused line OutOfRange else Ok tt)

-- a name among those of the TCPs, of the classes and of the terminals
abbrev pub has_tcp : Commands → Word → Bool
has_tcp commands name = list_any (λ tcp. bytes_eq tcp.name name) commands.tcps

-- a class of this name was added
abbrev pub has_class : Commands → Word → Bool
has_class commands name = list_any (λ class. bytes_eq class.name name) commands.classes

-- a terminal of this name was added
abbrev pub has_terminal : Commands → Word → Bool
has_terminal commands name = list_any (λ terminal. bytes_eq terminal.name name) commands.terminals

-- a TCP of a name, added on a line
abbrev pub new_tcp : ℕ → Word → Started
new_tcp line name = record { name = name; line = line; started = None }

-- a class of a name, with the values set so far
abbrev pub new_class : Values → ℕ → Word → ClassCommand
new_class values line name = record { name = name; program = values.program; processes = values.processes; line = line; started = None }

-- a terminal of a name, with the values set so far
abbrev pub new_terminal : Values → ℕ → Word → TermCommand
new_terminal values line name = record { name = name; tcp = values.tcp; program = values.initial; max_restarts = values.max_restarts; line = line; started = None }

-- ADD of an object of a name
abbrev pub added : ℕ → CommandReading → Object → Word → Result CommandReading Fault
added line reading object.Tcp name =
    admitted line (has_tcp reading.commands name) (nat_le most_tcps (length reading.commands.tcps))
    >>= (λ done. Ok (with_commands reading (record reading.commands { tcps = reading.commands.tcps ++ new_tcp line name ∷ [] })))
added line reading object.Server name =
    admitted line (has_class reading.commands name) (nat_le most_classes (length reading.commands.classes))
    >>= (λ done. Ok (with_commands reading (record reading.commands { classes = reading.commands.classes ++ new_class reading.values line name ∷ [] })))
added line reading object.Term name =
    admitted line (has_terminal reading.commands name) (nat_le most_terminals (length reading.commands.terminals))
    >>= (λ done. Ok (with_commands reading (record reading.commands { terminals = reading.commands.terminals ++ new_terminal reading.values line name ∷ [] })))

-- the line of the first START, where this one stands on a line
abbrev pub first_start : ℕ → Option ℕ → Option ℕ
first_start line None = Some line
first_start line (Some before) = Some before

-- what has the name is started
abbrev pub start_tcp : ℕ → Word → Started → Started
start_tcp line name tcp = if bytes_eq tcp.name name then record tcp { started = first_start line tcp.started } else tcp

-- START of a class of this name
abbrev pub start_class : ℕ → Word → ClassCommand → ClassCommand
start_class line name class = if bytes_eq class.name name then record class { started = first_start line class.started } else class

-- START of a terminal of this name
abbrev pub start_terminal : ℕ → Word → TermCommand → TermCommand
start_terminal line name terminal =
    if bytes_eq terminal.name name then record terminal { started = first_start line terminal.started } else terminal

-- START of an object of a name
abbrev pub started : ℕ → Commands → Object → Word → Commands
started line commands object.Tcp name = record commands { tcps = map (start_tcp line name) commands.tcps }
started line commands object.Server name = record commands { classes = map (start_class line name) commands.classes }
started line commands object.Term name = record commands { terminals = map (start_terminal line name) commands.terminals }

-- a command is taken
abbrev pub command_taken : ℕ → CommandReading → CommandVerb → Word → Result CommandReading Fault
command_taken line reading verb.SetTcp operand =
    named line operand >>= (λ name. Ok (with_values reading (record reading.values { tcp = name })))
command_taken line reading verb.SetInitial operand =
    named line operand >>= (λ name. Ok (with_values reading (record reading.values { initial = name })))
command_taken line reading verb.SetRestarts operand =
    ranged line 0 most_restarts operand >>= (λ n. Ok (with_values reading (record reading.values { max_restarts = n })))
command_taken line reading verb.SetProgram operand =
    named line operand >>= (λ name. Ok (with_values reading (record reading.values { program = name })))
command_taken line reading verb.SetProcesses operand =
    ranged line 1 most_processes operand >>= (λ n. Ok (with_values reading (record reading.values { processes = n })))
command_taken line reading (verb.Add object) operand = named line operand >>= (λ name. added line reading object name)
command_taken line reading (verb.Start object) operand =
    named line operand >>= (λ name. Ok (with_commands reading (started line reading.commands object name)))

-- the command of a line is taken, if it is one
abbrev pub taken_if : ℕ → CommandReading → Option (CommandVerb × Word) → Result CommandReading Fault
taken_if line reading None = refused line BadCommand
taken_if line reading (Some command) = command_taken line reading command.0 command.1

-- the line is a comment
abbrev pub is_comment : List ℕ → Bool
is_comment [] = false
is_comment (b ∷ rest) = b == asterisk

-- no word is there
abbrev pub is_none : List Word → Bool
is_none [] = true
is_none (word ∷ rest) = false

-- a line is read: an empty line and a comment say nothing
abbrev pub line_read : ℕ → CommandReading → List ℕ → Result CommandReading Fault
line_read number reading line =
    if is_comment line || is_none (words line) then Ok reading else taken_if number reading (command_of (words line))

-- lines are read one after the other, the first of them with a number
unfoldable pub lines_read : ℕ → CommandReading → List (List ℕ) → Result CommandReading Fault
lines_read number reading [] = Ok reading
lines_read number reading (line ∷ rest) = line_read number reading line >>= (λ next. lines_read (number + 1) next rest)

-- the commands of a text whose first line has a number
abbrev pub commands_of : List ℕ → ℕ → Result Commands Fault
commands_of text first_line = lines_read first_line starting (lines text) >>= (λ reading. Ok reading.commands)
