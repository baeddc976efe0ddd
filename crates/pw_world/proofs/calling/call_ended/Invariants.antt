use Rattle.std.proofs.Common.{◌≡◌}
use Rattle.pw_world.proofs.calling.call_ended.Given as goal

abbrev pub invariant-loop-other : goal.invariant-loop-other
invariant-loop-other g l = l.ledger ≡ l.fn.ledger
