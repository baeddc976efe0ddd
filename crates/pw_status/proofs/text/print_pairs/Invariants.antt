-- The lines so far stand behind the text.
use Rattle.std.proofs.Common.{◌≡◌, ◌++◌}
use Rattle.pw_status.specs.Text.{lines_to}
use Rattle.pw_status.specs.Lines.{pair_watch_line}
use Rattle.pw_status.specs.Watching.{watched}
use Rattle.pw_status.proofs.text.print_pairs.Given as goal

abbrev pub invariant-loop-tcp : goal.invariant-loop-tcp
invariant-loop-tcp l = l.text ≡ l.initial.text ++ lines_to (pair_watch_line (watched l.world)) l.tcp
