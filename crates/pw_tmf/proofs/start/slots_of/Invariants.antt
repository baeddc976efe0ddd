use Rattle.std.proofs.Common.{◌≡◌, replicate}
use Rattle.pw_tmf.specs.Tmf.{no_slot}
use Rattle.pw_tmf.proofs.start.slots_of.Given as goal

abbrev pub invariant-loop : goal.invariant-loop
invariant-loop l = l.slots.items ≡ replicate l.counter no_slot
