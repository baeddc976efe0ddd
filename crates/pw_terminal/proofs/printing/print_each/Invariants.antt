use Rattle.std.proofs.Common.{◌≡◌, ◌-◌, ◌*◌, ◌++◌, length}
use Rattle.pw_terminal.specs.Screen.{row_lines}
use Rattle.pw_terminal.proofs.printing.print_each.Given as goal

abbrev pub invariant-loop-number : goal.invariant-loop-number
invariant-loop-number l = record {
  rows_left : length l.rest ≡ (24 - l.number) * 80;
  lines : l.text ++ row_lines (24 - l.number) l.number l.rest ≡ l.initial.text ++ row_lines 23 1 l.upper;
}
