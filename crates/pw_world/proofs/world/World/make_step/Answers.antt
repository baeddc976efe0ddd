use Rattle.pw_world.specs.Found.{IsFound}
use Rattle.pw_world.specs.States.{seen}
use Rattle.pw_world.proofs.world.World.make_step.Goals as goal

pub enter_step-requires-clause-found : goal.enter_step-requires-clause-found
enter_step-requires-clause-found g c κs within =
    let found : IsFound (seen g.D.Disc.told c.args.self.now) c.args.actor c.in-Ok-Some.entry = rw c.in-Ok-Some.field-0-is at c.in-Ok-Some.ensures in
    (c.args.actor, found)

pub returns : goal.returns
returns g c =
    let found : IsFound (seen g.D.Disc.told c.args.self.now) c.args.actor c.in-Ok-Some.entry = rw c.in-Ok-Some.field-0-is at c.in-Ok-Some.ensures in
    c.enter_step.ensures c.args.actor found
