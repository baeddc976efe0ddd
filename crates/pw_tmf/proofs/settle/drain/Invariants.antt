use Rattle.std.proofs.Common.{length}
use Rattle.pw_tmf.proofs.Drained.{IsDrained}
use Rattle.pw_tmf.proofs.settle.drain.Given as goal

abbrev pub invariant-loop-image : goal.invariant-loop-image
invariant-loop-image l = IsDrained l.fn.files.items l.fn.images l.files.items l.images

abbrev pub decreases-loop-image : goal.decreases-loop-image
decreases-loop-image l = length l.images
