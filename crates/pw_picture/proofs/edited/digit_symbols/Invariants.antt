-- The digits that were counted and those that are left are all.
use Rattle.std.proofs.Common.{◌≡◌, ◌+◌, drop}
use Rattle.pw_picture.specs.Grammar.{digit_symbols}
use Rattle.pw_picture.specs.Runs.{spread}
use Rattle.pw_picture.proofs.edited.digit_symbols.Given as goal

abbrev pub invariant-loop-run : goal.invariant-loop-run
invariant-loop-run l = l.digits + digit_symbols (spread (drop l.run-index l.runs)) ≡ digit_symbols (spread l.runs)
