use Rattle.std.proofs.Common.{◌≡◌}
use Rattle.pw_world.specs.States.{seen}
use Rattle.pw_actor_queue.specs.Places.{waiting}
use Rattle.pw_world.proofs.world.World.work.Given as goal

abbrev pub invariant-loop-actor : goal.invariant-loop-actor
invariant-loop-actor g l = seen g.D.Disc.told l.self ≡ seen g.D.Disc.told l.fn.self

abbrev pub decreases-loop-actor : goal.decreases-loop-actor
decreases-loop-actor g l = waiting l.self.ledger.notes
