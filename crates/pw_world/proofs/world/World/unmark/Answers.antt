use Rattle.std.proofs.Common.{◌∙◌, ap, false}
use Rattle.pw_world.proofs.Noting.{mark-out, mark-stamp, noted-monitor, noted-seen, outs_of, stamps_of, unmarked-marks}
use Rattle.pw_world.specs.States.{WorldState, seen}
use Rattle.pw_actor_queue.specs.Places.{notes_in}
use Rattle.pw_world.proofs.world.World.unmark.Goals as goal

pub invariant_of-self : goal.invariant_of-self
invariant_of-self g c =
    let w : WorldState g.row.D.Denot = record { keep = c.self.inside.keep; first = c.self.inside.first.value; script = c.self.inside.script.lines; limit = c.self.inside.limit; failed = c.self.inside.failed; ledger = c.self.inside.ledger } in
    let notes = notes_in w.ledger.notes in
    let idle = rw (← c.self.view_is) at c.requires.idle in
    noted-monitor g.D.Disc.told w c.unmark.new.self c.self.invariant c.unmark.ensures.rest
    (ap stamps_of c.unmark.ensures.notes ∙ mark-stamp notes c.args.actor false)
    (unmarked-marks (seen g.D.Disc.told w) notes (notes_in c.unmark.new.self.notes) c.args.actor c.self.invariant.books.marked idle c.unmark.ensures.notes)

pub returns-clause-seen : goal.returns-clause-seen
returns-clause-seen g c =
    let w : WorldState g.row.D.Denot = record { keep = c.self.inside.keep; first = c.self.inside.first.value; script = c.self.inside.script.lines; limit = c.self.inside.limit; failed = c.self.inside.failed; ledger = c.self.inside.ledger } in
    let notes = notes_in w.ledger.notes in
    rw (← c.self.view_is)
    (noted-seen g.D.Disc.told w c.unmark.new.self (outs_of notes) c.unmark.ensures.rest
    (ap outs_of c.unmark.ensures.notes ∙ mark-out notes c.args.actor false))
