use Rattle.std.proofs.Common.{◌≡◌, ◌+◌, ◌≤◌, length}
use Rattle.pw_event.specs.Due.{next_failure}
use Rattle.pw_event.proofs.Dues.{first_open}
use Rattle.pw_event.proofs.due.due.Given as goal

abbrev pub invariant-loop-line : goal.invariant-loop-line
invariant-loop-line l = record {
  number : l.number + length l.rest ≤ 65;
  so_far : first_open l.log l.owner l.number l.rest ≡ next_failure l.script.lines l.log l.owner;
}

abbrev pub decreases-loop-line : goal.decreases-loop-line
decreases-loop-line l = length l.rest
