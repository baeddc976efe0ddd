use Rattle.pw_world.specs.States.{seen}
use Rattle.pw_workers.proofs.Claimed.{claimed}
use Rattle.pw_workers.proofs.shared.Shared.claimed.Goals as goal

pub returns-clause-can : goal.returns-clause-can
returns-clause-can g c = λ task is.
    claimed g.N.Naming.system (seen g.D.Disc.told c.self.inside.world) (seen g.D.Disc.told c.claim.new.self) c.claim.result task is c.claim.ensures.claims c.claim.ensures.sound c.self.invariant.same.system_is
