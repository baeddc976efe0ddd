-- The characters so far, with those of the entries that are left, are all.
use Rattle.std.proofs.Common.{◌≡◌, ◌≤◌, ◌++◌, length, All}
use Rattle.pw_data.specs.Entries.{KeepsPicture}
use Rattle.pw_data.specs.Tree.{forest}
use Rattle.pw_data.specs.Laid.{chars_in}
use Rattle.pw_data.proofs.storage.+chars_of.Given as goal

abbrev pub decreases-chars_of : goal.decreases-chars_of
decreases-chars_of l = length l.entries.now

abbrev pub invariant-loop-entry : goal.invariant-loop-entry
invariant-loop-entry l = record {
  shorter : length l.rest ≤ length l.entries;
  kept : All (KeepsPicture l.text) l.rest;
  so_far : l.chars ++ chars_in l.text (forest l.rest) ≡ chars_in l.text (forest l.entries);
}

abbrev pub decreases-loop-entry : goal.decreases-loop-entry
decreases-loop-entry l = length l.rest
