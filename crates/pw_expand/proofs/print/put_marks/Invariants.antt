use Rattle.std.proofs.Common.{◌≡◌, ◌++◌, drop}
use Rattle.pw_expand.specs.Printed.{mark_lines}
use Rattle.pw_expand.proofs.print.put_marks.Given as goal

-- the text so far, and the lines of the marks that are left
abbrev pub invariant-loop-id : goal.invariant-loop-id
invariant-loop-id l = l.text ++ mark_lines l.system (drop l.id-index l.marks) ≡ l.initial.text ++ mark_lines l.system l.marks
