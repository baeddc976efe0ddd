use Rattle.pw_workers.specs.Turns.{CanDo}
use Rattle.pw_workers.proofs.workers.one.Given as goal

abbrev pub invariant-loop : goal.invariant-loop
invariant-loop g l = CanDo g.N.Naming.system l.turn
