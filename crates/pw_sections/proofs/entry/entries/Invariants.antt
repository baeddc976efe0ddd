use Rattle.std.proofs.Common.{◌≡◌, ◌+◌, ◌≤◌, length}
use Rattle.pw_sections.specs.Lines.{lines}
use Rattle.pw_sections.specs.Steps.{each_line}
use Rattle.pw_sections.specs.Entries.{entry_read, entries_of}
use Rattle.pw_sections.proofs.entry.entries.Given as goal

abbrev pub invariant-loop-line : goal.invariant-loop-line
invariant-loop-line l = record {
  so_far : each_line entry_read l.number l.entries (lines l.rest) ≡ entries_of l.text l.first_line;
  number : l.number + length l.rest ≤ l.first_line + length l.text;
}

abbrev pub decreases-loop-line : goal.decreases-loop-line
decreases-loop-line l = length l.rest
