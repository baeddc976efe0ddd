use Rattle.std.proofs.lemmas.List.Edits.{map_over_more}
use Rattle.pw_class.specs.Queue.{busy_without}
use Rattle.pw_class.proofs.work.end_all_for.Goals as goal

pub loop-work-preserved : goal.loop-work-preserved
loop-work-preserved c =
    rw (c.end_for.ensures, ← c.work-item.is)
    (map_over_more (busy_without c.args.terminal) c.deref_mut-work-items.result.now c.loop-work.work-items c.loop-work.work-index c.work-item.result
    c.loop-work-test.true c.loop-work.invariant c.work-item.is)
