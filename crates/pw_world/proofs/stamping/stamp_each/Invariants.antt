-- What is left to be stamped leads to all.
use Rattle.std.proofs.Common.{◌≡◌, drop, length}
use Rattle.pw_world.specs.Bookings.{stamped_each}
use Rattle.pw_world.specs.Ledgers.{IsNoted}
use Rattle.pw_actor_queue.specs.Places.{notes_in}
use Rattle.pw_world.proofs.stamping.stamp_each.Given as goal

abbrev pub invariant-loop-one : goal.invariant-loop-one
invariant-loop-one l = record {
  leads : stamped_each (drop l.one-index l.actors) (length l.initial.ledger.log) (notes_in l.ledger.notes) ≡ stamped_each l.actors (length l.initial.ledger.log) (notes_in l.initial.ledger.notes);
  rest : IsNoted l.initial.ledger l.ledger;
}
