use Rattle.pw_tmf.proofs.Settling.{IsSettling}
use Rattle.pw_tmf.proofs.settle.settle.Given as goal

abbrev pub invariant-loop-images : goal.invariant-loop-images
invariant-loop-images l = IsSettling l.fn.files.items l.fn.pending.items l.files.items l.pending.items

abbrev pub decreases-loop-images : goal.decreases-loop-images
decreases-loop-images l = l.pending.len
