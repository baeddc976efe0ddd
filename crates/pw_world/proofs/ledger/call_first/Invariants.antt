use Rattle.std.proofs.Common.{◌≡◌}
use Rattle.pw_world.proofs.ledger.call_first.Given as goal

abbrev pub invariant-loop-tcp : goal.invariant-loop-tcp
invariant-loop-tcp l = l.roster.notes ≡ l.fn.roster.notes

abbrev pub invariant-loop-class : goal.invariant-loop-class
invariant-loop-class l = l.roster.notes ≡ l.fn.roster.notes
