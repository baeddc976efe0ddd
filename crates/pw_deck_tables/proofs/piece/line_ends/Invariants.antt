-- The ends that were summed, with those that are left, are all.
use Rattle.std.proofs.Common.{◌≡◌, ◌+◌, ◌≤◌, length}
use Rattle.pw_deck_tables.proofs.Lines.{ends}
use Rattle.pw_deck_tables.proofs.piece.line_ends.Given as goal

abbrev pub invariant-loop-byte : goal.invariant-loop-byte
invariant-loop-byte l = record {
  so_far : l.ends + ends l.rest ≡ ends l.text;
  within : l.ends + length l.rest ≤ length l.text;
}

abbrev pub decreases-loop-byte : goal.decreases-loop-byte
decreases-loop-byte l = length l.rest
