use Rattle.std.proofs.Common.{◌≡◌}
use Rattle.pw_world.proofs.calling.call_working.Given as goal

abbrev pub invariant-loop-class : goal.invariant-loop-class
invariant-loop-class g l = l.ledger ≡ l.fn.ledger
