use Rattle.pw_status.proofs.Each.{each-step}
use Rattle.pw_status.specs.Attempts.{stopped_of}
use Rattle.pw_status.proofs.attempts.stop_pair.Goals as goal

pub loop-seat-preserved : goal.loop-seat-preserved
loop-seat-preserved c =
    each-step (stopped_of c.args.tcp) c.loop-seat.seat-items c.deref_mut-seat-items.result.now c.loop-seat.seat-index
    c.stop_one.new.seat _ c.loop-seat.invariant c.loop-seat-test.true c.stop_one.ensures
