-- The faults so far, with those of the entries that are left, are all.
use Rattle.std.proofs.Common.{◌≡◌, ◌≤◌, length}
use Rattle.pw_base.specs.First.{least}
use Rattle.pw_data.specs.Tree.{forest, is_top, in_table, tree_faults}
use Rattle.pw_data.proofs.tree.+tree_faults.Given as goal

abbrev pub decreases-tree_faults : goal.decreases-tree_faults
decreases-tree_faults l = length l.entries.now

abbrev pub invariant-loop-entry : goal.invariant-loop-entry
invariant-loop-entry l = record {
  shorter : length l.rest ≤ length l.entries;
  so_far : least l.known (tree_faults (is_top l.within) (in_table l.within) (forest l.rest)) ≡ least l.fn.known (tree_faults (is_top l.within) (in_table l.within) (forest l.entries));
}

abbrev pub decreases-loop-entry : goal.decreases-loop-entry
decreases-loop-entry l = length l.rest
