use Rattle.pw_world.specs.States.{seen}
use Rattle.pw_world_model.specs.Calls.{lent}
use Rattle.pw_workers.proofs.Asked.{asked-at}
use Rattle.pw_workers.proofs.places.lend_at.Goals as goal

pub returns-in-Some : goal.returns-in-Some
returns-in-Some g c =
    asked-at (lent ((seen g.D.Disc.told c.args.world.now).kept.pairs c.args.tcp)) c.args.place.now c.in-Some.lane c.lend_one.new.lane c.lend_one.result c.in-Some.is c.lend_one.ensures
