-- The lines so far stand behind the text.
use Rattle.std.proofs.Common.{◌≡◌, ◌++◌}
use Rattle.pw_status.specs.Text.{lines_to}
use Rattle.pw_status.specs.Lines.{class_watch_line}
use Rattle.pw_status.specs.Watching.{watched}
use Rattle.pw_status.proofs.text.print_classes.Given as goal

abbrev pub invariant-loop-class : goal.invariant-loop-class
invariant-loop-class l = l.text ≡ l.initial.text ++ lines_to (class_watch_line (watched l.world)) l.class
