use Rattle.std.proofs.Common.{◌≡◌, ◌+◌, ◌≤◌, length}
use Rattle.pw_sections.specs.Lines.{lines}
use Rattle.pw_sections.specs.Steps.{each_line}
use Rattle.pw_log_lines.specs.Fail.{failure_read, failures_of}
use Rattle.pw_log_lines.proofs.fail.failures.Given as goal

abbrev pub invariant-loop-line : goal.invariant-loop-line
invariant-loop-line l = record {
  so_far : each_line (failure_read l.names) l.number l.fails (lines l.rest) ≡ failures_of l.names l.text l.first_line;
  number : l.number + length l.rest ≤ l.first_line + length l.text;
}

abbrev pub decreases-loop-line : goal.decreases-loop-line
decreases-loop-line l = length l.rest
