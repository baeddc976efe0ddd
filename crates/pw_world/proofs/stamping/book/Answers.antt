use Rattle.std.proofs.Common.{◌∙◌, ap, length, subst, sym}
use Rattle.pw_world_store.specs.Keeps.{kept_in}
use Rattle.pw_world.proofs.Stamped.{is-booked}
use Rattle.pw_world.specs.Bookings.{IsBooked, stamped_each}
use Rattle.pw_world.specs.Ledgers.{LedgerState}
use Rattle.pw_actor_queue.specs.Places.{notes_in}
use Rattle.pw_world.proofs.stamping.book.Goals as goal

pub returns : goal.returns
returns g c =
    let pushed = c.push.new.self in
    subst (λ (l : LedgerState). IsBooked (kept_in g.D.Disc.told c.args.keep.now) c.args.entry.now c.args.booking c.args.ledger.now l) (sym c.call_behind.ensures)
    (is-booked (kept_in g.D.Disc.told c.args.keep.now) c.args.entry.now c.args.booking c.args.ledger.now pushed c.stamp_each.new.ledger c.stamp_turned.new.ledger c.mark_all.new.self
    c.push.ensures c.stamp_each.ensures.rest
    (c.stamp_each.ensures.notes ∙ ap (λ actors. stamped_each actors (length pushed.log) (notes_in pushed.notes)) c.deref.ensures.value)
    c.stamp_turned.ensures.rest c.stamp_turned.ensures.notes c.mark_all.ensures.rest c.mark_all.ensures.notes)
