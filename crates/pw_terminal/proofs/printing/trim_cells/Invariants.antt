use Rattle.std.proofs.Common.{◌≡◌, ◌≤◌, length, take}
use Rattle.pw_terminal.specs.Screen.{trimmed}
use Rattle.pw_terminal.proofs.printing.trim_cells.Given as goal

abbrev pub invariant-loop-end : goal.invariant-loop-end
invariant-loop-end l = record {
  within : l.end ≤ length l.row;
  same : trimmed (take l.end l.row) ≡ trimmed l.row;
}

abbrev pub decreases-loop-end : goal.decreases-loop-end
decreases-loop-end l = l.end
