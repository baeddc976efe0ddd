use Rattle.std.proofs.Common.{◌≡◌, length}
use Rattle.std.specs.Prelude.{find}
use Rattle.pw_actor_queue.specs.Line.{behind_first, waits_at}
use Rattle.pw_actor_queue.proofs.roster.first_in_line.Given as goal

abbrev pub invariant-loop-place : goal.invariant-loop-place
invariant-loop-place l = record {
  found : find (waits_at l.notes) l.line ≡ find (waits_at l.notes) l.fn.line;
  left : behind_first (waits_at l.notes) l.line ≡ behind_first (waits_at l.notes) l.fn.line;
}

abbrev pub decreases-loop-place : goal.decreases-loop-place
decreases-loop-place l = length l.line
