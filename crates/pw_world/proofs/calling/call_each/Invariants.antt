use Rattle.std.proofs.Common.{◌≡◌}
use Rattle.pw_world.proofs.calling.call_each.Given as goal

abbrev pub invariant-loop-one : goal.invariant-loop-one
invariant-loop-one l = l.ledger ≡ l.fn.ledger
