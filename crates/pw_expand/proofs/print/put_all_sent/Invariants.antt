use Rattle.std.proofs.Common.{◌≡◌, ◌+◌, ◌++◌, drop}
use Rattle.pw_expand.specs.Printed.{sent_lines}
use Rattle.pw_expand.proofs.print.put_all_sent.Given as goal

-- the text so far, and the lines of the messages that are left
abbrev pub invariant-loop-place : goal.invariant-loop-place
invariant-loop-place l = l.text ++ sent_lines (l.place + 1) (drop l.place l.sent) ≡ l.initial.text ++ sent_lines 1 l.sent
