use Rattle.std.proofs.Common.{◌≡◌, ◌+◌, ◌≤◌, [], length}
use Rattle.pw_sections.specs.Lines.{lines}
use Rattle.pw_sections.specs.Steps.{each_line}
use Rattle.pw_log_lines.specs.Log.{event_read}
use Rattle.pw_log_lines.proofs.log.read_lines.Given as goal

abbrev pub invariant-loop-line : goal.invariant-loop-line
invariant-loop-line l = record {
  so_far : each_line (event_read l.names) l.number l.events (lines l.rest) ≡ each_line (event_read l.names) l.first_line [] (lines l.text);
  few : length l.events + l.first_line ≤ l.number;
  number : l.number + length l.rest ≤ l.first_line + length l.text;
}

abbrev pub decreases-loop-line : goal.decreases-loop-line
decreases-loop-line l = length l.rest
