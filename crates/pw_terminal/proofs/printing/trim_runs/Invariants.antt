use Rattle.std.proofs.Common.{◌≡◌, ◌≤◌, length}
use Rattle.pw_terminal.specs.Screen.{trimmed}
use Rattle.pw_terminal.proofs.printing.trim_runs.Given as goal

abbrev pub invariant-loop-kept : goal.invariant-loop-kept
invariant-loop-kept l = record {
  within : length l.kept ≤ length l.row;
  same : trimmed l.kept ≡ trimmed l.row;
}

abbrev pub decreases-loop-kept : goal.decreases-loop-kept
decreases-loop-kept l = length l.kept
