-- The names so far, with those of the entries that are left, are all.
use Rattle.std.proofs.Common.{◌≡◌, length}
use Rattle.pw_data.specs.Names.{has_name}
use Rattle.pw_divisions.specs.Entries.{division_entries_of}
use Rattle.pw_divisions.specs.Divisions.{with_parameters, parameters}
use Rattle.pw_divisions.proofs.using.parameters.Given as goal

abbrev pub invariant-loop-cursor : goal.invariant-loop-cursor
invariant-loop-cursor l = record {
  text : l.cursor.text ≡ l.text;
  so_far : with_parameters l.text (has_name l.names) (division_entries_of l.cursor.tokens) ≡ parameters l.text l.linkage;
}

abbrev pub decreases-loop-cursor : goal.decreases-loop-cursor
decreases-loop-cursor l = length l.cursor.tokens
