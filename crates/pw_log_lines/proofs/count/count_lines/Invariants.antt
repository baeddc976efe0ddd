use Rattle.std.proofs.Common.{◌≡◌, ◌+◌, ◌≤◌, length}
use Rattle.pw_sections.specs.Lines.{lines}
use Rattle.pw_sections.specs.Steps.{each_line}
use Rattle.pw_log_lines.proofs.count.count_lines.Given as goal

abbrev pub invariant-loop-line : goal.invariant-loop-line
invariant-loop-line g l = record {
  so_far : each_line (g.C.CountedLines.counted l.names) l.number l.count (lines l.rest) ≡ each_line (g.C.CountedLines.counted l.names) l.first_line 0 (lines l.text);
  count : l.count ≤ g.C.CountedLines.most;
  number : l.number + length l.rest ≤ l.first_line + length l.text;
}

abbrev pub decreases-loop-line : goal.decreases-loop-line
decreases-loop-line g l = length l.rest
