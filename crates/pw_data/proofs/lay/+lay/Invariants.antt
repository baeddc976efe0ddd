-- The items so far, with those of the entries that are left, are all.
use Rattle.std.proofs.Common.{◌≡◌, ◌+◌, ◌≤◌, ◌++◌, length, All}
use Rattle.pw_base.specs.Limits.{most_storage}
use Rattle.pw_data.specs.Entries.{KeepsPicture}
use Rattle.pw_data.specs.Tree.{forest}
use Rattle.pw_data.specs.Laid.{size_in, items_in}
use Rattle.pw_data.proofs.lay.+lay.Given as goal

abbrev pub decreases-lay : goal.decreases-lay
decreases-lay l = length l.entries.now

abbrev pub invariant-loop-entry : goal.invariant-loop-entry
invariant-loop-entry l = record {
  shorter : length l.rest ≤ length l.entries;
  within : l.at + size_in (forest l.rest) ≤ most_storage;
  kept : All (KeepsPicture l.text) l.rest;
  so_far : l.items.items ++ items_in l.text l.at l.around (forest l.rest) ≡ l.fn.items.items ++ items_in l.text l.fn.at l.around (forest l.entries);
}

abbrev pub decreases-loop-entry : goal.decreases-loop-entry
decreases-loop-entry l = length l.rest
