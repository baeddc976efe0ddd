-- The size so far, with that of the entries that are left, is the whole.
use Rattle.std.proofs.Common.{◌≡◌, ◌+◌, ◌≤◌, min, length}
use Rattle.pw_base.specs.Limits.{most_storage}
use Rattle.pw_data.specs.Tree.{forest}
use Rattle.pw_data.specs.Laid.{size_in}
use Rattle.pw_data.proofs.tree.+size_of.Given as goal

abbrev pub decreases-size_of : goal.decreases-size_of
decreases-size_of l = length l.entries.now

abbrev pub invariant-loop-entry : goal.invariant-loop-entry
invariant-loop-entry l = record {
  shorter : length l.rest ≤ length l.entries;
  bound : l.size ≤ most_storage + 1;
  so_far : min (l.size + size_in (forest l.rest)) (most_storage + 1) ≡ min (size_in (forest l.entries)) (most_storage + 1);
}

abbrev pub decreases-loop-entry : goal.decreases-loop-entry
decreases-loop-entry l = length l.rest
