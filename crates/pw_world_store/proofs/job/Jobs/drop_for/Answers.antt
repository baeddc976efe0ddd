use Rattle.std.proofs.lemmas.List.Edits.{map_over_more}
use Rattle.pw_world_store.specs.Jobs.{dropped_for}
use Rattle.pw_world_store.proofs.job.Jobs.drop_for.Goals as goal

pub loop-job-preserved : goal.loop-job-preserved
loop-job-preserved c =
    rw (c.drop_one.ensures, ← c.job-item.is)
    (map_over_more (dropped_for c.args.terminal) c.deref_mut-job-items.result.now c.loop-job.job-items c.loop-job.job-index c.job-item.result
    c.loop-job-test.true c.loop-job.invariant c.job-item.is)
