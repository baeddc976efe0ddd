use Rattle.std.proofs.Common.{◌≡◌, ◌+◌, ◌≤◌, None, length}
use Rattle.pw_base.specs.First.{least}
use Rattle.pw_sections.specs.Lines.{lines}
use Rattle.pw_pathcom.specs.Objects.{bad_starts}
use Rattle.pw_pathcom.proofs.objects.first_bad_start.Given as goal

abbrev pub invariant-loop-line : goal.invariant-loop-line
invariant-loop-line l = record {
  so_far : least l.best (bad_starts l.commands l.number (lines l.rest)) ≡ least None (bad_starts l.commands l.first_line (lines l.text));
  number : l.number + length l.rest ≤ l.first_line + length l.text;
}

abbrev pub decreases-loop-line : goal.decreases-loop-line
decreases-loop-line l = length l.rest
