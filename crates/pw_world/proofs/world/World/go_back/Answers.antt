use Rattle.std.proofs.Common.{◌∙◌, ap, subst, sym}
use Rattle.pw_world.specs.PutBack.{RanFrom, ran_back}
use Rattle.pw_world.specs.States.{seen}
use Rattle.pw_actor_queue.specs.declared.actor.Actor.{Actor}
use Rattle.pw_world.proofs.world.World.go_back.Goals as goal

pub returns-in-Terminal : goal.returns-in-Terminal
returns-in-Terminal g c = λ given ran spare.
    let world = seen g.D.Disc.told c.args.self.now in
    let now = subst (λ (a : Actor). RanFrom ran.0 world a given) c.in-Terminal.is ran.1 in
    c.leave_verb.ensures given (ran.0, now) ∙ ap (λ (a : Actor). ran_back a given world) (sym c.in-Terminal.is)
