-- The words of the command line, and the lines that are written where no report is.
use Rattle.std.specs.Prelude.{ℕ, List, [], ◌∷◌, ◌++◌, Bool, true, false, codes, Option, None, Some, if◌then◌else◌}
use Rattle.std.specs.Fmt.{decimal}
use Rattle.pw_base.specs.Characters.{line_feed, space}
use Rattle.pw_base.specs.declared.fault.Fault.{Fault}
use Rattle.pw_base.specs.FaultCodes.{number, text}
use Rattle.pw_command_line.specs.CommandLine.{command_of}
use Rattle.pw_command_line.specs.declared.words.Command.{Command}
use Rattle.pw_command_line.specs.declared.words.Command.TheVariants as command
use Rattle.pw_command_line.specs.declared.words.Words.{Words}

-- the commands that the program does: each
abbrev pub is_for_program : Command → Bool
is_for_program _ = true

-- the commands that wait for no thread
abbrev pub is_for_desk : Command → Bool
is_for_desk command.Check = true
is_for_desk command.Verify = true
is_for_desk command.Gen = true
is_for_desk command.Status = true
is_for_desk command.Expand = true
is_for_desk _ = false

-- the commands that read the source
abbrev pub reads_source : Command → Bool
reads_source command.Gen = false
reads_source command.Trial = false
reads_source _ = true

-- what words say, where their command is done
abbrev pub if_done : (Command → Bool) → Option Words → Option Words
if_done does None = None
if_done does (Some said) = if does said.command then Some said else None

-- what the words say, if they are those of a command that is done
abbrev pub said : (Command → Bool) → List (List ℕ) → Option Words
said does words = if_done does (command_of words)

-- the line that is written where the words say nothing
abbrev pub usage_line : List ℕ
usage_line = codes "USAGE: pathway run|trial|check|verify|gen|disc|trail|status|expand [--workers N] [--events N] [--seed N] [--terms N] [--at N]\n"

-- the line of a deck without a fault
abbrev pub deck_ok : List ℕ
deck_ok = codes "DECK OK\n"

-- the line of a first fault
abbrev pub fault_line : Fault → List ℕ
fault_line fault = codes "DECK FAULT LINE " ++ (decimal fault.line ++ (codes " CODE " ++ (decimal (number fault.code) ++ (space ∷ text fault.code ++ line_feed ∷ []))))
