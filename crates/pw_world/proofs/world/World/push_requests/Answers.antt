use Rattle.pw_world_store.specs.Keeps.{kept_in}
use Rattle.pw_world.proofs.Touching.{requests-more}
use Rattle.pw_world.specs.Touched.{asks_at}
use Rattle.pw_world.proofs.world.World.push_requests.Goals as goal

pub loop-seat-preserved : goal.loop-seat-preserved
loop-seat-preserved g c = record {
  grown =
      requests-more c.args.self.now.keep.system (asks_at (kept_in g.D.Disc.told c.args.self.now.keep)) c.args.seats.now c.loop-seat.seat-index c.seat-item.result
      c.args.actors.now.items c.loop-seat.actors.items c.push_request.new.actors.items c.loop-seat-test.true c.seat-item.is c.loop-seat.invariant.grown c.in_ok-push_request.ensures;
}
