-- No pair so far is wrong, so the first wrong one is among those that are left.
use Rattle.std.proofs.Common.{◌≡◌, ◌+◌, ◌≤◌, length, drop}
use Rattle.std.specs.List.{position_or_len}
use Rattle.pw_terminal.specs.Entries.{is_wrong}
use Rattle.pw_terminal.proofs.entries.first_wrong.Given as goal

abbrev pub invariant-loop-at : goal.invariant-loop-at
invariant-loop-at l = record {
  so_far : l.at + position_or_len (is_wrong l.fields) (drop l.at l.pairs) ≡ position_or_len (is_wrong l.fields) l.pairs;
  within : l.start ≤ length l.fields;
}
