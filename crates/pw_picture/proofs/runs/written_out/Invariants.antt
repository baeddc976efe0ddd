-- What was written and what is left is all.
use Rattle.std.proofs.Common.{◌≡◌, ◌++◌, drop}
use Rattle.pw_picture.specs.Runs.{spread}
use Rattle.pw_picture.proofs.runs.written_out.Given as goal

abbrev pub invariant-loop-run : goal.invariant-loop-run
invariant-loop-run l = l.symbols ++ spread (drop l.run-index l.runs) ≡ spread l.runs
