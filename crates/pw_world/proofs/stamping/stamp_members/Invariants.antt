-- What is left to be stamped leads to all.
use Rattle.std.proofs.Common.{◌≡◌, drop, length}
use Rattle.pw_world.proofs.Stamped.{members_of_seats}
use Rattle.pw_world.specs.Bookings.{stamped_each}
use Rattle.pw_world.specs.Ledgers.{IsNoted}
use Rattle.pw_actor_queue.specs.Places.{notes_in}
use Rattle.pw_world.proofs.stamping.stamp_members.Given as goal

abbrev pub invariant-loop-seat : goal.invariant-loop-seat
invariant-loop-seat l = record {
  leads : stamped_each (members_of_seats (drop l.seat-index l.seats)) (length l.initial.ledger.log) (notes_in l.ledger.notes) ≡ stamped_each (members_of_seats l.seats) (length l.initial.ledger.log) (notes_in l.initial.ledger.notes);
  rest : IsNoted l.initial.ledger l.ledger;
}
