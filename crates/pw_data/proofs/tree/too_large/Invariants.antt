-- The storage of the items so far is not too large.
use Rattle.std.proofs.Common.{◌≡◌, ◌≤◌, length}
use Rattle.pw_base.specs.Limits.{most_storage}
use Rattle.pw_data.specs.Tree.{forest}
use Rattle.pw_data.specs.Laid.{too_large}
use Rattle.pw_data.proofs.tree.too_large.Given as goal

abbrev pub invariant-loop-entry : goal.invariant-loop-entry
invariant-loop-entry l = record {
  bound : l.size ≤ most_storage;
  so_far : too_large l.size (forest l.rest) ≡ too_large 0 (forest l.entries);
}

abbrev pub decreases-loop-entry : goal.decreases-loop-entry
decreases-loop-entry l = length l.rest
