use Rattle.std.proofs.Common.{rules}
use Rattle.pw_world.specs.States.{seen}
use Rattle.pw_workers.proofs.Same.{builds-same}
use Rattle.pw_workers.proofs.shared.Shared.built_each.Goals as goal

pub invariant_of-self : goal.invariant_of-self
invariant_of-self g c =
    let asked = c.build_each.ensures.asked in
    let same = builds-same g.N.Naming.system g.N.Naming.script g.N.Naming.log g.N.Naming.limit g.N.Naming.faults asked.0 (seen g.D.Disc.told c.self.inside.world) (seen g.D.Disc.told c.build_each.new.world) asked.1 c.self.invariant.same in
    search rules
