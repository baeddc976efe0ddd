-- Objects that are not there, and starts that may not be.
use Rattle.std.specs.Prelude.{ℕ, ◌+◌, List, [], ◌∷◌, ◌++◌, flat_map, Bool, false, not, ◌&&◌, nat_lt, Option, None, Some, Result}
use Rattle.std.specs.List.{list_any}
use Rattle.std.specs.Str.{bytes_eq}
use Rattle.pw_base.specs.declared.fault.Fault.{Fault}
use Rattle.pw_base.specs.declared.fault_code.FaultCode.TheVariants.{UnknownObject, BadStart}
use Rattle.pw_base.specs.First.{least, unless}
use Rattle.pw_sections.specs.Lines.{lines}
use Rattle.pw_sections.specs.Steps.{◌>>=◌, fault_at, only_if}
use Rattle.pw_sections.specs.Words.{words, name_in}
use Rattle.pw_words.specs.Words.{Word}
use Rattle.pw_pathcom.specs.declared.commands.ClassCommand.{ClassCommand}
use Rattle.pw_pathcom.specs.declared.commands.Commands.{Commands}
use Rattle.pw_pathcom.specs.declared.commands.TermCommand.{TermCommand}
use Rattle.pw_pathcom.specs.declared.verb.Object.{Object}
use Rattle.pw_pathcom.specs.declared.verb.Object.TheVariants as object
use Rattle.pw_pathcom.specs.declared.verb.CommandVerb.{CommandVerb}
use Rattle.pw_pathcom.specs.declared.verb.CommandVerb.TheVariants as verb
use Rattle.pw_pathcom.specs.Verbs.{command_of}

-- the name is one of some names
abbrev pub is_known : List Word → Word → Bool
is_known names name = list_any (λ known. bytes_eq known name) names

-- a TCP of the name was added before a line
abbrev pub is_added_before : Commands → ℕ → Word → Bool
is_added_before commands line name = list_any (λ tcp. bytes_eq tcp.name name && nat_lt tcp.line line) commands.tcps

-- the ADD of a terminal is unknown, whose TCP was not added before or whose program is not there
abbrev pub unknown_terminal : Commands → List Word → TermCommand → List Fault
unknown_terminal commands programs terminal =
    only_if (not (is_added_before commands terminal.line terminal.tcp && is_known programs terminal.program)) (fault_at terminal.line UnknownObject)

-- the ADD of a class is unknown, whose program is not there
abbrev pub unknown_class : List Word → ClassCommand → List Fault
unknown_class servers class = only_if (not (is_known servers class.program)) (fault_at class.line UnknownObject)

-- the ADDs that are unknown
abbrev pub unknown : Commands → List Word → List Word → List Fault
unknown commands programs servers =
    flat_map (unknown_terminal commands programs) commands.terminals ++ flat_map (unknown_class servers) commands.classes

-- a START stands before a line
abbrev pub is_before : ℕ → Option ℕ → Bool
is_before line None = false
is_before line (Some start) = nat_lt start line

-- what was added on one line, and first started on another, may be started on this line
abbrev pub waits : ℕ → ℕ → Option ℕ → Bool
waits line added started = nat_lt added line && not (is_before line started)

-- a TCP of the name was started before a line
abbrev pub runs_before : Commands → ℕ → Word → Bool
runs_before commands line name = list_any (λ tcp. bytes_eq tcp.name name && is_before line tcp.started) commands.tcps

-- an object of the name was added before the line and is not started; a terminal's TCP is started
abbrev pub may_start : Commands → ℕ → Object → Word → Bool
may_start commands line object.Tcp name =
    list_any (λ tcp. bytes_eq tcp.name name && waits line tcp.line tcp.started) commands.tcps
may_start commands line object.Server name =
    list_any (λ class. bytes_eq class.name name && waits line class.line class.started) commands.classes
may_start commands line object.Term name =
    list_any (λ terminal. bytes_eq terminal.name name && (waits line terminal.line terminal.started && runs_before commands line terminal.tcp)) commands.terminals

-- a START that may not be
abbrev pub bad_start : Commands → ℕ → CommandVerb → Option Word → List Fault
bad_start commands line (verb.Start object) (Some name) = only_if (not (may_start commands line object name)) (fault_at line BadStart)
bad_start commands line _ _ = []

-- the same, of the command of a line
abbrev pub bad_start_in : Commands → ℕ → Option (CommandVerb × Word) → List Fault
bad_start_in commands line None = []
bad_start_in commands line (Some command) = bad_start commands line command.0 (name_in command.1)

-- the STARTs of lines that may not be, the first of the lines with a number
unfoldable pub bad_starts : Commands → ℕ → List (List ℕ) → List Fault
bad_starts commands number [] = []
bad_starts commands number (line ∷ rest) =
    bad_start_in commands number (command_of (words line)) ++ bad_starts commands (number + 1) rest

-- the first ADD that is unknown, else the first START that may not be
abbrev pub objects_of : Commands → List ℕ → ℕ → List Word → List Word → Result (Unit {0}) Fault
objects_of commands text first_line programs servers =
    unless (least None (unknown commands programs servers)) (tt {0})
    >>= (λ done. unless (least None (bad_starts commands first_line (lines text))) (tt {0}))
