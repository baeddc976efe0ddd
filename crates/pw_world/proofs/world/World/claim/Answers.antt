use Rattle.std.proofs.Common.{◌≡◌, ◌∙◌, ap, false, subst, sym, true}
use Rattle.pw_world_model.specs.Actors.{IsActor}
use Rattle.pw_world_model.specs.Answers.{IsWork, with_out}
use Rattle.pw_world_model.specs.Enabled.{MayWork}
use Rattle.pw_world_model.specs.Seen.{Seen, finished, sys_of, work_of}
use Rattle.pw_world_model.specs.Stamps.{IsStamp}
use Rattle.pw_world.proofs.Claiming.{is-inside}
use Rattle.pw_world.specs.Found.{FindsTask, IsTaskOf}
use Rattle.pw_world.specs.States.{seen}
use Rattle.pw_actor_queue.specs.Places.{notes_in}
use Rattle.pw_actor_queue.specs.declared.actor.Actor.{Actor}
use Rattle.pw_world.proofs.world.World.claim.Goals as goal

pub returns-in-Some-2-clause-claims : goal.returns-in-Some-2-clause-claims
returns-in-Some-2-clause-claims g c =
    let told = g.D.Disc.told in
    let world = seen told c.args.self.now in
    let now = seen told c.next.new.self in
    let task = c.in-Some-2.task in
    let actor = c.in-Some.actor in
    let same : now ≡ world = ap (seen told) c.next.ensures.same ∙ c.loop-actor.invariant in
    let unfinished : finished world ≡ false = sym c.finished.ensures ∙ c.if-finished.false in
    let found : IsTaskOf now actor task = subst (FindsTask now actor) c.in-Some-2.is c.in_ok-task.ensures in
    let own = sym found.actor_is in
    let rests : (seen told c.loop-actor.self).out actor ≡ false = is-inside (notes_in c.loop-actor.self.ledger.notes actor) c.in-Some.ensures.next.1 in
    let inside : now.out actor ≡ false = ap (λ w. (seen told w).out actor) c.next.ensures.same ∙ rests in
    let work : IsWork now task = record {
      actor = subst (IsActor now.system) own found.known;
      inside = ap now.out found.actor_is ∙ inside;
      may = subst (MayWork now) own found.may;
      stamp = subst (λ (a : Actor). IsStamp (sys_of now) now.log a task.stamp) own found.stamp;
      work = found.work ∙ ap (work_of now) own;
    } in (
      unfinished,
      (
        subst (λ (w : Seen). IsWork w task) same work,
        c.set_out.ensures
            ∙ (ap (with_out actor true) same ∙ ap (λ (a : Actor). with_out a true world) own),
      ),
    )
