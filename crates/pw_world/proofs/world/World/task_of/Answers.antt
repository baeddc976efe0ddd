use Rattle.std.proofs.Common.{◌≡◌, ◌∙◌, Some, inr, ap, refl, rules, subst, sym}
use Rattle.std.specs.Option.{option_copied}
use Rattle.pw_code_meaning.specs.Sound.{IsSoundContext}
use Rattle.pw_world_model.specs.Actors.{IsActor}
use Rattle.pw_world_model.specs.Seen.{sys_of, work_of}
use Rattle.pw_world_model.specs.Stamps.{IsStamp}
use Rattle.pw_world.specs.Ledgers.{books_of}
use Rattle.pw_world.specs.States.{WorldState, seen}
use Rattle.pw_actor_queue.specs.declared.roster.ActorNote.{ActorNote}
use Rattle.pw_world.proofs.world.World.task_of.Goals as goal

pub returns-in-Some : goal.returns-in-Some
returns-in-Some g c =
    let w : WorldState g.row.D.Denot = record { keep = c.self.inside.keep; first = c.self.inside.first.value; script = c.self.inside.script.lines; limit = c.self.inside.limit; failed = c.self.inside.failed; ledger = c.self.inside.ledger } in
    let world = seen g.D.Disc.told w in
    let actor = c.args.actor in
    let own = c.in-Some.context.now in
    let here : IsActor c.system.result.now c.args.actor = search rules in
    let known : IsActor w.keep.system actor = subst (λ s. IsActor s actor) c.system.ensures here in
    let asked = rw (← c.self.view_is) at c.unread.ensures in
    let work : work_of world actor ≡ Some own = sym asked ∙ ap option_copied c.in-Some.is in
    rw (← c.self.view_is) (record {
      known = known;
      actor_is = refl;
      may = inr (own, work);
      stamp =
          subst (λ (n : ActorNote). IsStamp (sys_of world) world.log actor n.stamp) (sym c.note-stamp.ensures)
          (c.self.invariant.books.stamps actor known);
      work = ap Some c.in_ok-duplicate.ensures ∙ sym work;
      sound = λ x is.
          let one : own ≡ x = cc (is, c.in_ok-duplicate.ensures) in
          subst (IsSoundContext w.keep.system) one
          (c.context_laws.ensures.work world (books_of w.ledger) actor own c.self.invariant known work).0;
    })
