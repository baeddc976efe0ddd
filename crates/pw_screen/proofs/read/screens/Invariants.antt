-- What was read, with the entries that are left, is the section; the screens so far are the program's.
use Rattle.std.proofs.Common.{◌≡◌, length}
use Rattle.pw_divisions.specs.Entries.{division_entries_of}
use Rattle.pw_screen.specs.Screens.{screens_of}
use Rattle.pw_screen.specs.Built.{AreSound, outcome}
use Rattle.pw_screen.proofs.read.screens.Given as goal

abbrev pub invariant-loop-cursor : goal.invariant-loop-cursor
invariant-loop-cursor l = record {
  text : l.cursor.text ≡ l.text;
  so_far : outcome l.text l.layout l.reading (division_entries_of l.cursor.tokens) ≡ screens_of l.text l.tokens l.layout;
  sound : AreSound (length l.layout.storage) l.reading.build;
}

abbrev pub decreases-loop-cursor : goal.decreases-loop-cursor
decreases-loop-cursor l = length l.cursor.tokens
