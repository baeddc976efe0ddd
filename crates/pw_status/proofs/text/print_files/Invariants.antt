-- The lines so far stand behind the text.
use Rattle.std.proofs.Common.{◌≡◌, ◌++◌}
use Rattle.pw_status.specs.Text.{lines_to}
use Rattle.pw_status.specs.Lines.{file_of}
use Rattle.pw_status.specs.Watching.{watched}
use Rattle.pw_status.proofs.text.print_files.Given as goal

abbrev pub invariant-loop-file : goal.invariant-loop-file
invariant-loop-file l = l.text ≡ l.initial.text ++ lines_to (file_of (watched l.world)) l.file
