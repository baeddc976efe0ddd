use Rattle.std.proofs.Common.{◌≡◌}
use Rattle.pw_world.proofs.calling.call_processes.Given as goal

abbrev pub invariant-loop-before : goal.invariant-loop-before
invariant-loop-before g l = l.ledger ≡ l.fn.ledger
