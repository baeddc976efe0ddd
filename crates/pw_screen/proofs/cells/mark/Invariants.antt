-- The cells so far are marked, and the others as before.
use Rattle.std.proofs.Common.{◌≡◌, ℕ, ◌≤◌, ◌-◌}
use Rattle.std.specs.Prelude.{◌||◌}
use Rattle.pw_screen.specs.Cells.{is_place_within, is_marked}
use Rattle.pw_screen.proofs.cells.mark.Given as goal

abbrev pub invariant-loop-done : goal.invariant-loop-done
invariant-loop-done l = record {
  within : l.done ≤ l.count;
  so_far : (place : ℕ) → is_marked l.marks place ≡ (is_place_within l.from l.done place || is_marked l.initial.marks place);
}

abbrev pub decreases-loop-done : goal.decreases-loop-done
decreases-loop-done l = l.count - l.done
