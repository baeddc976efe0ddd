use Rattle.std.proofs.Common.{◌≡◌, ◌++◌}
use Rattle.pw_expand.specs.Printed.{marks_to}
use Rattle.pw_expand.specs.Systems.{member_in}
use Rattle.pw_expand.proofs.print.put_all_marks.Given as goal

-- the lines of the marks of the systems so far
abbrev pub invariant-loop-place : goal.invariant-loop-place
invariant-loop-place l = l.text ≡ l.initial.text ++ marks_to (member_in l.world.members.entries) l.place
