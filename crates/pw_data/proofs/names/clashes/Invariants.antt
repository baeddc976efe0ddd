-- The clashes so far, with those of the entries that are left, are all, and the set has the names so far.
use Rattle.std.proofs.Common.{◌≡◌, [], take, drop}
use Rattle.pw_base.specs.First.{least}
use Rattle.pw_data.specs.Names.{HasNamesOf, clashes}
use Rattle.pw_data.proofs.names.clashes.Given as goal

abbrev pub invariant-loop-entry : goal.invariant-loop-entry
invariant-loop-entry l = record {
  names : HasNamesOf l.text (take l.entry-index l.entries) l.names;
  so_far : least l.known (clashes l.text (take l.entry-index l.entries) (drop l.entry-index l.entries)) ≡ least l.fn.known (clashes l.text [] l.entries);
}
