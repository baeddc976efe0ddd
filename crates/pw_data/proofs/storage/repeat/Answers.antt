use Rattle.pw_data.proofs.Repeats.{repeat-more}
use Rattle.pw_data.proofs.storage.repeat.Goals as goal

pub loop-preserved : goal.loop-preserved
loop-preserved c = repeat-more _ _ _ _ c.loop.counter c.loop.invariant c.in_ok-extend.ensures.ok
