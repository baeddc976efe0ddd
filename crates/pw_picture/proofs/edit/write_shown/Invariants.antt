-- What is written, with what the symbols that are left show, is the whole.
use Rattle.std.proofs.Common.{◌≡◌, ◌≤◌, ◌++◌, false, take, drop}
use Rattle.pw_picture.specs.Grammar.{digit_symbols}
use Rattle.pw_picture.specs.Edited.{shown_from}
use Rattle.pw_picture.proofs.edit.write_shown.Given as goal

abbrev pub invariant-loop-at : goal.invariant-loop-at
invariant-loop-at l = record {
  left : l.behind ≡ digit_symbols (drop l.at l.symbols);
  few : l.behind ≤ 18;
  written : take l.at l.into ++ shown_from l.nine l.negative l.size (drop l.at l.symbols) ≡ shown_from false l.negative l.size l.symbols;
}
