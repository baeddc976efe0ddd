use Rattle.std.proofs.Common.{map}
use Rattle.std.proofs.lemmas.List.Edits.{map_over_more}
use Rattle.pw_world_store.specs.Jobs.{dropped_for}
use Rattle.pw_world_store.proofs.pieces.drop_jobs.Goals as goal

pub loop-class-preserved : goal.loop-class-preserved
loop-class-preserved c =
    rw (c.drop_for.ensures, ← c.class-item.is)
    (map_over_more (map (dropped_for c.args.terminal)) c.deref_mut-class-items.result.now c.loop-class.class-items c.loop-class.class-index c.class-item.result
    c.loop-class-test.true c.loop-class.invariant c.class-item.is)
