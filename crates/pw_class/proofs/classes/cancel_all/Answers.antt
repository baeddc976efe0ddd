use Rattle.std.proofs.lemmas.List.Edits.{map_over_more}
use Rattle.pw_class.specs.Queue.{without}
use Rattle.pw_class.proofs.classes.cancel_all.Goals as goal

pub loop-queue-preserved : goal.loop-queue-preserved
loop-queue-preserved c =
    rw (c.cancel.ensures, ← c.queue-item.is)
    (map_over_more (without c.args.terminal) c.deref_mut-queue-items.result.now c.loop-queue.queue-items c.loop-queue.queue-index c.queue-item.result
    c.loop-queue-test.true c.loop-queue.invariant c.queue-item.is)
