use Rattle.std.proofs.Common.{◌∙◌, Bool, ap}
use Rattle.pw_world.proofs.Noting.{noted-monitor, noted-seen, out-mark, out-out, out-stamp, outs_of, outs_with, stamps_of}
use Rattle.pw_world.specs.States.{WorldState}
use Rattle.pw_actor_queue.specs.Places.{notes_in}
use Rattle.pw_actor_queue.specs.declared.actor.Actor.{Actor}
use Rattle.pw_actor_queue.specs.declared.roster.ActorNote.{ActorNote}
use Rattle.pw_world.proofs.world.World.set_out.Goals as goal

pub invariant_of-self : goal.invariant_of-self
invariant_of-self g c =
    let w : WorldState g.row.D.Denot = record { keep = c.self.inside.keep; first = c.self.inside.first.value; script = c.self.inside.script.lines; limit = c.self.inside.limit; failed = c.self.inside.failed; ledger = c.self.inside.ledger } in
    let notes = notes_in w.ledger.notes in
    noted-monitor g.D.Disc.told w c.set_out.new.self c.self.invariant c.set_out.ensures.rest
    (ap stamps_of c.set_out.ensures.notes ∙ out-stamp notes c.args.actor c.args.out)
    (λ actor known may.
    ap (λ (n : Actor → ActorNote). (n actor).marked) c.set_out.ensures.notes
    ∙ (ap (λ (m : Actor → Bool). m actor) (out-mark notes c.args.actor c.args.out) ∙ c.self.invariant.books.marked actor known may))

pub returns : goal.returns
returns g c =
    let w : WorldState g.row.D.Denot = record { keep = c.self.inside.keep; first = c.self.inside.first.value; script = c.self.inside.script.lines; limit = c.self.inside.limit; failed = c.self.inside.failed; ledger = c.self.inside.ledger } in
    let notes = notes_in w.ledger.notes in
    rw (← c.self.view_is)
    (noted-seen g.D.Disc.told w c.set_out.new.self (outs_with c.args.actor c.args.out notes) c.set_out.ensures.rest
    (ap outs_of c.set_out.ensures.notes ∙ out-out notes c.args.actor c.args.out))
