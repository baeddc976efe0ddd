use Rattle.std.proofs.Common.{◌∙◌, ap, subst, sym}
use Rattle.pw_world.proofs.Filing.{marked-monitor, marked-seen}
use Rattle.pw_world.proofs.Noting.{all-mark}
use Rattle.pw_world.proofs.PutBack.{back-monitor, back-seen, left-changed}
use Rattle.pw_world.specs.PutBack.{RanFrom, ran_back}
use Rattle.pw_world.specs.States.{WorldState, seen}
use Rattle.pw_world_model.proofs.Steps.{placed}
use Rattle.pw_world_model.specs.Seen.{Seen}
use Rattle.pw_actor_queue.specs.Places.{notes_in}
use Rattle.pw_actor_queue.specs.declared.actor.Actor.{Actor}
use Rattle.pw_actor_queue.specs.declared.actor.Actor.TheVariants as actor
use Rattle.pw_actor_queue.specs.declared.roster.ActorNote.{ActorNote}
use Rattle.pw_world.proofs.world.World.leave_verb.Goals as goal

pub invariant_of-self : goal.invariant_of-self
invariant_of-self g c =
    let w : WorldState g.row.D.Denot = record { keep = c.self.inside.keep; first = c.self.inside.first.value; script = c.self.inside.script.lines; limit = c.self.inside.limit; failed = c.self.inside.failed; ledger = c.self.inside.ledger } in
    let told = g.D.Disc.told in
    let l = c.mark_all.new.self in
    let rest = c.mark_all.ensures.rest in
    let notes = c.mark_all.ensures.notes in
    let who = actor.Terminal c.args.terminal in
    let ran = rw (← c.self.view_is) at c.requires.ran in
    let of = rw (← c.self.view_is) at c.requires.actor in
    let now = subst (λ (world : Seen). RanFrom ran.1.0 world who ran.0) (sym (marked-seen told w l rest notes)) ran.1.1 in
    back-monitor told (record w { ledger = l }) c.leave_verb-left.new.self ran.1.0 who ran.0
    (marked-monitor told w l c.self.invariant rest notes) of now
    (λ other known.
    ap (λ (n : Actor → ActorNote). (n other).marked) notes ∙ all-mark (notes_in w.ledger.notes) other (placed w.keep.system c.self.invariant.valid other known))
    (left-changed told (record w { ledger = l }) c.leave_verb-left.new.self ran.1.0 c.args.terminal ran.0 of now c.leave_verb-left.ensures.left)

pub returns : goal.returns
returns g c = λ given ran_old.
    let w : WorldState g.row.D.Denot = record { keep = c.self.inside.keep; first = c.self.inside.first.value; script = c.self.inside.script.lines; limit = c.self.inside.limit; failed = c.self.inside.failed; ledger = c.self.inside.ledger } in
    let told = g.D.Disc.told in
    let l = c.mark_all.new.self in
    let rest = c.mark_all.ensures.rest in
    let notes = c.mark_all.ensures.notes in
    let who = actor.Terminal c.args.terminal in
    let ran = rw (← c.self.view_is) at ran_old in
    let of = rw (← c.self.view_is) at c.requires.actor in
    let now = subst (λ (world : Seen). RanFrom ran.0 world who given) (sym (marked-seen told w l rest notes)) ran.1 in
    rw (← c.self.view_is)
    (back-seen told (record w { ledger = l }) c.leave_verb-left.new.self who given
    (left-changed told (record w { ledger = l }) c.leave_verb-left.new.self ran.0 c.args.terminal given of now c.leave_verb-left.ensures.left)
    ∙ ap (ran_back who given) (marked-seen told w l rest notes))
