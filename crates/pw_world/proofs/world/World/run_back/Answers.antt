use Rattle.std.proofs.Common.{◌∙◌, ap, subst, sym}
use Rattle.pw_world.proofs.Filing.{marked-monitor, marked-seen}
use Rattle.pw_world.proofs.Noting.{all-mark}
use Rattle.pw_world.proofs.PutBack.{back-answer, back-monitor, back-program, back-seen}
use Rattle.pw_world.specs.PutBack.{RanFrom, ran_back}
use Rattle.pw_world.specs.States.{WorldState, seen}
use Rattle.pw_world_model.proofs.Steps.{placed}
use Rattle.pw_world_model.specs.Seen.{Seen}
use Rattle.pw_actor_queue.specs.Places.{notes_in}
use Rattle.pw_actor_queue.specs.declared.actor.Actor.{Actor}
use Rattle.pw_actor_queue.specs.declared.roster.ActorNote.{ActorNote}
use Rattle.pw_world.proofs.world.World.run_back.Goals as goal

pub put_back-requires-clause-program : goal.put_back-requires-clause-program
put_back-requires-clause-program g c κs within =
    let w : WorldState g.row.D.Denot = record { keep = c.self.inside.keep; first = c.self.inside.first.value; script = c.self.inside.script.lines; limit = c.self.inside.limit; failed = c.self.inside.failed; ledger = c.self.inside.ledger } in
    let ran = rw (← c.self.view_is) at c.requires.ran in
    back-program ran.0 (seen g.D.Disc.told w) c.args.actor c.args.given ran.1 (rw (← c.self.view_is) at c.requires.actor)

pub put_back-requires-clause-answer : goal.put_back-requires-clause-answer
put_back-requires-clause-answer g c κs within =
    let ran = c.requires.ran in
    back-answer ran.0 (seen g.D.Disc.told c.args.self.now) c.args.actor c.args.given ran.1

pub invariant_of-self : goal.invariant_of-self
invariant_of-self g c =
    let w : WorldState g.row.D.Denot = record { keep = c.self.inside.keep; first = c.self.inside.first.value; script = c.self.inside.script.lines; limit = c.self.inside.limit; failed = c.self.inside.failed; ledger = c.self.inside.ledger } in
    let told = g.D.Disc.told in
    let l = c.mark_all.new.self in
    let rest = c.mark_all.ensures.rest in
    let notes = c.mark_all.ensures.notes in
    let ran = rw (← c.self.view_is) at c.requires.ran in
    back-monitor told (record w { ledger = l }) c.put_back.new.keep ran.0 c.args.actor c.args.given
    (marked-monitor told w l c.self.invariant rest notes) (rw (← c.self.view_is) at c.requires.actor)
    (subst (λ (world : Seen). RanFrom ran.0 world c.args.actor c.args.given) (sym (marked-seen told w l rest notes)) ran.1)
    (λ other known.
    ap (λ (n : Actor → ActorNote). (n other).marked) notes ∙ all-mark (notes_in w.ledger.notes) other (placed w.keep.system c.self.invariant.valid other known))
    c.put_back.ensures

pub returns : goal.returns
returns g c =
    let w : WorldState g.row.D.Denot = record { keep = c.self.inside.keep; first = c.self.inside.first.value; script = c.self.inside.script.lines; limit = c.self.inside.limit; failed = c.self.inside.failed; ledger = c.self.inside.ledger } in
    let told = g.D.Disc.told in
    let l = c.mark_all.new.self in
    rw (← c.self.view_is)
    (back-seen told (record w { ledger = l }) c.put_back.new.keep c.args.actor c.args.given c.put_back.ensures
    ∙ ap (ran_back c.args.actor c.args.given) (marked-seen told w l c.mark_all.ensures.rest c.mark_all.ensures.notes))
