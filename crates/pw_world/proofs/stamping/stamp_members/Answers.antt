use Rattle.std.proofs.Common.{◌∙◌, ap, length, sym}
use Rattle.std.proofs.lemmas.List.{drop_all}
use Rattle.pw_world.proofs.Stamped.{members_of_seats, noted-log, noted-then, stamp-member}
use Rattle.pw_world.specs.Bookings.{stamped_each}
use Rattle.pw_actor_queue.specs.Places.{notes_in}
use Rattle.pw_world.proofs.stamping.stamp_members.Goals as goal

pub loop-seat-preserved : goal.loop-seat-preserved
loop-seat-preserved c =
    let old = c.loop-seat.ledger in
    record {
      leads =
          stamp-member c.args.seats.now c.loop-seat.seat-index c.seat-item.result (length c.args.ledger.now.log) (length old.log) (notes_in old.notes) (notes_in c.stamp_called.new.self.notes)
          c.loop-seat-test.true c.seat-item.is (ap length (noted-log c.args.ledger.now old c.loop-seat.invariant.rest)) c.stamp_called.ensures.notes
          ∙ c.loop-seat.invariant.leads;
      rest = noted-then c.args.ledger.now old c.stamp_called.new.self c.loop-seat.invariant.rest c.stamp_called.ensures.rest;
    }

pub returns-clause-notes : goal.returns-clause-notes
returns-clause-notes c =
    let n = length c.args.ledger.now.log in
    sym (ap (λ l. stamped_each (members_of_seats l) n (notes_in c.loop-seat.ledger.notes)) (drop_all c.loop-seat.seat-index c.args.seats.now c.loop-seat-test.false))
    ∙ c.loop-seat.invariant.leads
