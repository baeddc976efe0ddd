-- The lines so far stand behind the text.
use Rattle.std.proofs.Common.{◌≡◌, ◌++◌}
use Rattle.pw_status.specs.Text.{lines_to}
use Rattle.pw_status.specs.Lines.{terminal_of}
use Rattle.pw_status.specs.Watching.{watched}
use Rattle.pw_status.proofs.text.print_terminals.Given as goal

abbrev pub invariant-loop-terminal : goal.invariant-loop-terminal
invariant-loop-terminal l = l.text ≡ l.initial.text ++ lines_to (terminal_of (watched l.world)) l.terminal
