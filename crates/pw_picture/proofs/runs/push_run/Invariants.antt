-- As many of the symbol are behind the others as were put there.
use Rattle.std.proofs.Common.{◌≡◌, ◌++◌, replicate}
use Rattle.pw_picture.proofs.runs.push_run.Given as goal

abbrev pub invariant-loop : goal.invariant-loop
invariant-loop l = l.symbols ≡ l.initial.symbols ++ replicate l.counter l.run.symbol
