use Rattle.std.proofs.Common.{◌∙◌, ap, length, sym}
use Rattle.std.proofs.lemmas.List.{drop_all}
use Rattle.pw_world.proofs.Stamped.{noted-log, noted-then, stamp-next}
use Rattle.pw_world.specs.Bookings.{stamped_each}
use Rattle.pw_actor_queue.specs.Places.{notes_in}
use Rattle.pw_world.proofs.stamping.stamp_each.Goals as goal

pub loop-one-preserved : goal.loop-one-preserved
loop-one-preserved c =
    let old = c.loop-one.ledger in
    record {
      leads =
          stamp-next c.args.actors.now c.loop-one.one-index _ (length c.args.ledger.now.log) (length old.log) (notes_in old.notes) (notes_in c.stamp.new.self.notes)
          c.loop-one-test.true (ap length (noted-log c.args.ledger.now old c.loop-one.invariant.rest)) c.stamp.ensures.notes
          ∙ c.loop-one.invariant.leads;
      rest = noted-then c.args.ledger.now old c.stamp.new.self c.loop-one.invariant.rest c.stamp.ensures.rest;
    }

pub returns-clause-notes : goal.returns-clause-notes
returns-clause-notes c =
    let n = length c.args.ledger.now.log in
    sym (ap (λ l. stamped_each l n (notes_in c.loop-one.ledger.notes)) (drop_all c.loop-one.one-index c.args.actors.now c.loop-one-test.false))
    ∙ c.loop-one.invariant.leads
