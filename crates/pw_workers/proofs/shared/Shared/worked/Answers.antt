use Rattle.std.proofs.Common.{rules}
use Rattle.pw_world.specs.Ledgers.{books_of}
use Rattle.pw_world.specs.States.{seen}
use Rattle.pw_world_state.specs.Members.{members_of}
use Rattle.pw_workers.proofs.Same.{works-failed, works-fault, works-same}
use Rattle.pw_workers.proofs.shared.Shared.worked.Goals as goal

pub invariant_of-self : goal.invariant_of-self
invariant_of-self g c =
    let world = c.self.inside.world in
    let same = works-same g.N.Naming.system g.N.Naming.script g.N.Naming.log g.N.Naming.limit g.N.Naming.faults (members_of world.keep.system) (seen g.D.Disc.told world) (seen g.D.Disc.told c.work.new.self) c.work.result c.work.ensures.works c.self.invariant.same in
    search rules

pub returns-clause-failed : goal.returns-clause-failed
returns-clause-failed g c = λ is.
    let world = c.self.inside.world in
    works-failed (members_of world.keep.system) (seen g.D.Disc.told world) (seen g.D.Disc.told c.work.new.self) (books_of world.ledger) c.work.result is c.holds.ensures c.work.ensures.works

pub returns-clause-fault : goal.returns-clause-fault
returns-clause-fault g c = λ is.
    let world = c.self.inside.world in
    works-fault (members_of world.keep.system) (seen g.D.Disc.told world) (seen g.D.Disc.told c.work.new.self) c.work.result is c.work.ensures.works
