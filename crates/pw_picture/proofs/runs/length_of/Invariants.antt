-- What was counted and what is left is all.
use Rattle.std.proofs.Common.{◌≡◌, ◌+◌, length, drop}
use Rattle.pw_picture.specs.Runs.{spread}
use Rattle.pw_picture.proofs.runs.length_of.Given as goal

abbrev pub invariant-loop-run : goal.invariant-loop-run
invariant-loop-run l = l.count + length (spread (drop l.run-index l.runs)) ≡ length (spread l.runs)
