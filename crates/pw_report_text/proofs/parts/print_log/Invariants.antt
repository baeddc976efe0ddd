use Rattle.std.proofs.Common.{◌≡◌, ◌+◌, ◌++◌, drop}
use Rattle.pw_report_text.specs.Lines.{entry_lines}
use Rattle.pw_report_text.proofs.parts.print_log.Given as goal

-- the text so far, and the lines of the entries that are left
abbrev pub invariant-loop-place : goal.invariant-loop-place
invariant-loop-place l =
    l.text ++ entry_lines l.system (l.place + 1) (drop l.place l.log) ≡ l.initial.text ++ entry_lines l.system 1 l.log
