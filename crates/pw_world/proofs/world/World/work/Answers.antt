use Rattle.std.proofs.Common.{◌≡◌, ◌∙◌, None, Some, ap, false, subst, sym}
use Rattle.pw_world_model.specs.Actors.{IsActor}
use Rattle.pw_world_model.specs.Enabled.{MayWork}
use Rattle.pw_world_model.specs.Seen.{Seen}
use Rattle.pw_world_model.specs.Working.{WorksOn}
use Rattle.pw_world_model.specs.declared.answers.Applied.{Applied}
use Rattle.std.specs.Prelude.{Option}
use Rattle.pw_world.proofs.Claiming.{is-inside}
use Rattle.pw_world.specs.States.{WorldState, seen}
use Rattle.pw_world.specs.Working.{StopsWork, WorksFor}
use Rattle.pw_world_state.specs.Members.{members_of}
use Rattle.pw_actor_queue.specs.Places.{notes_in}
use Rattle.pw_world.proofs.world.World.work.Goals as goal

pub work_for-requires-clause-inside : goal.work_for-requires-clause-inside
work_for-requires-clause-inside g c κs within =
    let told = g.D.Disc.told in
    let rests : (seen told c.loop-actor.self).out c.in-Some-next.actor ≡ false =
    is-inside (notes_in c.loop-actor.self.ledger.notes c.in-Some-next.actor) c.in-Some-next.ensures.next.1 in
    ap (λ w. (seen told w).out c.in-Some-next.actor) c.next.ensures.same ∙ rests

pub returns-in-Ok-Some : goal.returns-in-Ok-Some
returns-in-Ok-Some g c =
    let told = g.D.Disc.told in
    let world = seen told c.args.self.now in
    let now = seen told c.next.new.self in
    let answer = c.in-Ok-Some.answer in
    let after = seen told c.work_for.new.self in
    let same : now ≡ world = ap (seen told) c.next.ensures.same ∙ c.loop-actor.invariant in
    let works : WorksFor (members_of now.system) now c.in-Some-next.actor after (Some answer) =
    subst (λ (o : Option Applied). WorksFor (members_of now.system) now c.in-Some-next.actor after o) c.in-Ok-Some.field-0-is c.in-Ok-Some.ensures.works in
    let goes : StopsWork world None = subst (StopsWork world) c.in_default.is c.no_work.ensures in
    let then : WorksOn (members_of world.system) world answer after =
    subst (λ (w : Seen). WorksOn (members_of w.system) w answer after) same works in
    record {
      works = (
        goes.0,
        subst (λ (w : WorldState _). WorksOn (members_of world.system) world answer (seen told w)) (sym c.call_again.ensures) then,
      );
    }

pub unmark-requires-clause-idle : goal.unmark-requires-clause-idle
unmark-requires-clause-idle g c κs within =
    let told = g.D.Disc.told in
    let now = seen told c.next.new.self in
    let actor = c.in-Some-next.actor in
    let after = seen told c.work_for.new.self in
    let idle = c.in-Ok-None.ensures.idle c.in-Ok-None.field-0-is in
    let works : WorksFor (members_of now.system) now actor after None =
    subst (λ (o : Option Applied). WorksFor (members_of now.system) now actor after o) c.in-Ok-None.field-0-is c.in-Ok-None.ensures.works in
    subst (λ (w : WorldState _). IsActor w.keep.system actor → ¬ MayWork (seen told w) actor) (sym idle) works
