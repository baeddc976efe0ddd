use Rattle.std.proofs.Common.{drop}
use Rattle.pw_locks.proofs.Registers.{Releasing}
use Rattle.pw_locks.proofs.release.release.Given as goal

abbrev pub invariant-loop-number : goal.invariant-loop-number
invariant-loop-number l = Releasing l.unit l.fn.locks l.locks l.register (drop l.number-index l.number-items)
