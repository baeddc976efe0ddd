use Rattle.std.proofs.Common.{◌≡◌, ◌∙◌, ◌<◌, ◌≤◌, ◌-◌, ◌^◌, ap, length, subst, sym, true}
use Rattle.pw_code.specs.declared.system.System.{System}
use Rattle.pw_world_store.specs.Keeps.{IsRefused, kept_in}
use Rattle.pw_world.proofs.Pushing.{due-low, failed-monitor, few, owner-low, pushed-monitor, pushed-seen, short-monitor, some-live, touched-placed}
use Rattle.pw_world.specs.Bookings.{IsBooked}
use Rattle.pw_world.specs.Ledgers.{LedgerState, books_of}
use Rattle.pw_world.specs.States.{IsMonitor, WorldState, seen}
use Rattle.pw_world_model.specs.Dues.{DueBook, IsOwner, count_of}
use Rattle.pw_tmf.specs.declared.answer.DiscFault.{DiscFault}
use Rattle.pw_tmf.specs.declared.answer.DiscFault.TheVariants as fault
use Rattle.pw_world.proofs.Baring.{bare}
use Rattle.pw_world.proofs.Making.{can-act}
use Rattle.pw_world.proofs.world.World.push.Goals as goal

pub make-requires-after_bounds : goal.make-requires-after_bounds
make-requires-after_bounds g c κs within =
    let w : WorldState g.row.D.Denot = record { keep = c.self.inside.keep; first = c.self.inside.first.value; script = c.self.inside.script.lines; limit = c.self.inside.limit; failed = c.self.inside.failed; ledger = c.self.inside.ledger } in
    let can = rw (← c.self.view_is) at c.requires.can in
    can-act (seen g.D.Disc.told w) (books_of w.ledger) c.self.invariant c.args.entry.now can
    (bare w.keep.system w.keep.seats (g.D.Disc.told w.keep.disc) w.keep.book w.keep.jobs w.keep.pairs w.keep.births c.known_parts.ensures).requests

pub book-requires-clause-pair : goal.book-requires-clause-pair
book-requires-clause-pair g c κs within =
    let w : WorldState g.row.D.Denot = record { keep = c.self.inside.keep; first = c.self.inside.first.value; script = c.self.inside.script.lines; limit = c.self.inside.limit; failed = c.self.inside.failed; ledger = c.self.inside.ledger } in
    let can = rw (← c.self.view_is) at c.requires.can in
    let b = rw (← c.self.view_is) at c.in_ok-booking.ensures in
    let m = c.self.invariant in
    subst (λ (s : System). IsOwner (length s.tcps) (length s.classes) c.in_ok-booking.booking.owner) (sym c.in-Ok.ensures.ok.system)
    (owner-low g.D.Disc.told w m c.args.entry.now can c.in_ok-booking.booking b)

pub book-requires-clause-owner : goal.book-requires-clause-owner
book-requires-clause-owner g c κs within =
    let w : WorldState g.row.D.Denot = record { keep = c.self.inside.keep; first = c.self.inside.first.value; script = c.self.inside.script.lines; limit = c.self.inside.limit; failed = c.self.inside.failed; ledger = c.self.inside.ledger } in
    let can = rw (← c.self.view_is) at c.requires.can in
    let b = rw (← c.self.view_is) at c.in_ok-booking.ensures in
    let m = c.self.invariant in
    subst (λ (d : DueBook). IsOwner (length d.tcps) (length d.classes) c.in_ok-booking.booking.owner) (sym (ap (λ (l : LedgerState). l.due) c.make.ensures.room))
    (due-low g.D.Disc.told w m c.args.entry.now can c.in_ok-booking.booking b)

pub book-requires-clause-few : goal.book-requires-clause-few
book-requires-clause-few g c κs within =
    let w : WorldState g.row.D.Denot = record { keep = c.self.inside.keep; first = c.self.inside.first.value; script = c.self.inside.script.lines; limit = c.self.inside.limit; failed = c.self.inside.failed; ledger = c.self.inside.ledger } in
    let can = rw (← c.self.view_is) at c.requires.can in
    let b = rw (← c.self.view_is) at c.in_ok-booking.ensures in
    let m = c.self.invariant in
    subst (λ (d : DueBook). count_of d c.in_ok-booking.booking.owner < 2 ^ 64 - 1) (sym (ap (λ (l : LedgerState). l.due) c.make.ensures.room))
    (few g.D.Disc.told w m c.args.entry.now can c.in_ok-booking.booking b)

pub book-requires-clause-live : goal.book-requires-clause-live
book-requires-clause-live g c κs within ends =
    let w : WorldState g.row.D.Denot = record { keep = c.self.inside.keep; first = c.self.inside.first.value; script = c.self.inside.script.lines; limit = c.self.inside.limit; failed = c.self.inside.failed; ledger = c.self.inside.ledger } in
    let can = rw (← c.self.view_is) at c.requires.can in
    let b = rw (← c.self.view_is) at c.in_ok-booking.ensures in
    let m = c.self.invariant in
    subst (λ n. 1 ≤ n) (sym (ap (λ (l : LedgerState). l.live) c.make.ensures.room))
    (some-live g.D.Disc.told w m c.args.entry.now can c.in_ok-booking.booking b)

pub book-requires-clause-placed : goal.book-requires-clause-placed
book-requires-clause-placed g c κs within =
    let w : WorldState g.row.D.Denot = record { keep = c.self.inside.keep; first = c.self.inside.first.value; script = c.self.inside.script.lines; limit = c.self.inside.limit; failed = c.self.inside.failed; ledger = c.self.inside.ledger } in
    let can = rw (← c.self.view_is) at c.requires.can in
    let b = rw (← c.self.view_is) at c.in_ok-booking.ensures in
    let m = c.self.invariant in
    touched-placed g.D.Disc.told w m c.args.entry.now can c.in_ok-booking.booking b

pub invariant_of-self : goal.invariant_of-self
invariant_of-self g c =
    let w : WorldState g.row.D.Denot = record { keep = c.self.inside.keep; first = c.self.inside.first.value; script = c.self.inside.script.lines; limit = c.self.inside.limit; failed = c.self.inside.failed; ledger = c.self.inside.ledger } in
    let can = rw (← c.self.view_is) at c.requires.can in
    let b = rw (← c.self.view_is) at c.in_ok-booking.ensures in
    let m = c.self.invariant in
    let k = c.make.new.keep in
    let room : c.make.new.ledger ≡ record w.ledger { spare = true } = c.make.ensures.room ∙ ap (λ s. record w.ledger { spare = s }) c.in-Ok.ensures.spare in
    let booked : IsBooked (kept_in g.D.Disc.told k) c.args.entry.now c.in_ok-booking.booking (record w.ledger { spare = true }) c.book.new.ledger =
    subst (λ (old : LedgerState). IsBooked (kept_in g.D.Disc.told k) c.args.entry.now c.in_ok-booking.booking old c.book.new.ledger) room c.book.ensures in
    pushed-monitor g.D.Disc.told w m c.args.entry.now can c.in_ok-booking.booking b k c.in-Ok.ensures.ok c.book.new.ledger booked

pub returns-in-Ok-clause-ok : goal.returns-in-Ok-clause-ok
returns-in-Ok-clause-ok g c =
    let w : WorldState g.row.D.Denot = record { keep = c.self.inside.keep; first = c.self.inside.first.value; script = c.self.inside.script.lines; limit = c.self.inside.limit; failed = c.self.inside.failed; ledger = c.self.inside.ledger } in
    let can = rw (← c.self.view_is) at c.requires.can in
    let b = rw (← c.self.view_is) at c.in_ok-booking.ensures in
    let m = c.self.invariant in
    let k = c.make.new.keep in
    let room : c.make.new.ledger ≡ record w.ledger { spare = true } = c.make.ensures.room ∙ ap (λ s. record w.ledger { spare = s }) c.in-Ok.ensures.spare in
    let booked : IsBooked (kept_in g.D.Disc.told k) c.args.entry.now c.in_ok-booking.booking (record w.ledger { spare = true }) c.book.new.ledger =
    subst (λ (old : LedgerState). IsBooked (kept_in g.D.Disc.told k) c.args.entry.now c.in_ok-booking.booking old c.book.new.ledger) room c.book.ensures in
    rw (← c.self.view_is) (pushed-seen g.D.Disc.told w m c.args.entry.now can c.in_ok-booking.booking b k c.in-Ok.ensures.ok c.book.new.ledger booked)

pub invariant_of-self-in-Err-Failed : goal.invariant_of-self-in-Err-Failed
invariant_of-self-in-Err-Failed g c =
    let w : WorldState g.row.D.Denot = record { keep = c.self.inside.keep; first = c.self.inside.first.value; script = c.self.inside.script.lines; limit = c.self.inside.limit; failed = c.self.inside.failed; ledger = c.self.inside.ledger } in
    let refused : IsRefused g.D.Disc.told fault.Failed w.keep c.make.new.keep =
    subst (λ (f : DiscFault). IsRefused g.D.Disc.told f w.keep c.make.new.keep) c.in-Err-Failed.field-0-is c.in-Err-Failed.ensures.err in
    subst (λ (l : LedgerState). IsMonitor g.D.Disc.told (record w { keep = c.make.new.keep; failed = true; ledger = l })) (sym c.make.ensures.room)
    (failed-monitor g.D.Disc.told w c.self.invariant c.make.new.ledger.spare c.make.new.keep refused)

pub invariant_of-self-in-Err-Memory : goal.invariant_of-self-in-Err-Memory
invariant_of-self-in-Err-Memory g c =
    let w : WorldState g.row.D.Denot = record { keep = c.self.inside.keep; first = c.self.inside.first.value; script = c.self.inside.script.lines; limit = c.self.inside.limit; failed = c.self.inside.failed; ledger = c.self.inside.ledger } in
    let refused : IsRefused g.D.Disc.told fault.Memory w.keep c.make.new.keep =
    subst (λ (f : DiscFault). IsRefused g.D.Disc.told f w.keep c.make.new.keep) c.in-Err-Memory.field-0-is c.in-Err-Memory.ensures.err in
    subst (λ (l : LedgerState). IsMonitor g.D.Disc.told (record w { keep = c.make.new.keep; ledger = l })) (sym c.make.ensures.room)
    (short-monitor g.D.Disc.told w c.self.invariant c.make.new.ledger.spare c.make.new.keep refused)
