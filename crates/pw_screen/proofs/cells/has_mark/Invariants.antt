-- No place so far is marked, and those that are left are the last ones.
use Rattle.std.proofs.Common.{◌≡◌, ◌+◌, ◌≤◌, length}
use Rattle.std.specs.List.{list_any}
use Rattle.pw_screen.specs.Cells.{places_from, is_marked}
use Rattle.pw_screen.proofs.cells.has_mark.Given as goal

abbrev pub invariant-loop-left : goal.invariant-loop-left
invariant-loop-left l = record {
  within : l.place + l.left ≤ length l.marks;
  so_far : list_any (is_marked l.marks) (places_from l.place l.left) ≡ list_any (is_marked l.marks) (places_from l.from l.count);
}

abbrev pub decreases-loop-left : goal.decreases-loop-left
decreases-loop-left l = l.left
