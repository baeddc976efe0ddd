use Rattle.std.proofs.Common.{◌≡◌, ◌+◌, ◌≤◌, length}
use Rattle.pw_sections.specs.Lines.{lines}
use Rattle.pw_pathcom.specs.Reading.{lines_read, starting}
use Rattle.pw_pathcom.proofs.pathcom.pathcom.Given as goal

abbrev pub invariant-loop-line : goal.invariant-loop-line
invariant-loop-line l = record {
  so_far : lines_read l.number l.reading (lines l.rest) ≡ lines_read l.first_line starting (lines l.text);
  number : l.number + length l.rest ≤ l.first_line + length l.text;
}

abbrev pub decreases-loop-line : goal.decreases-loop-line
decreases-loop-line l = length l.rest
