-- The entries that are read, with those of the tokens that are left, are all, and so are their faults.
use Rattle.std.proofs.Common.{◌≡◌, ◌++◌, None, length}
use Rattle.pw_base.specs.First.{least}
use Rattle.pw_data.specs.Parts.{parts_from, parts_of}
use Rattle.pw_data.specs.Entries.{faults_of_parts, data_entries_of}
use Rattle.pw_data.proofs.entries.read_entries.Given as goal

abbrev pub invariant-loop-cursor : goal.invariant-loop-cursor
invariant-loop-cursor l = record {
  text : l.cursor.text ≡ l.text;
  server : l.found.server ≡ l.server;
  entries : l.found.entries.items ++ data_entries_of l.server l.text (parts_from l.text l.found.linked 0 l.cursor.tokens) ≡ data_entries_of l.server l.text (parts_of l.text l.tokens);
  faults : least l.found.known (faults_of_parts l.server l.text (parts_from l.text l.found.linked 0 l.cursor.tokens)) ≡ least None (faults_of_parts l.server l.text (parts_of l.text l.tokens));
}

abbrev pub decreases-loop-cursor : goal.decreases-loop-cursor
decreases-loop-cursor l = length l.cursor.tokens
