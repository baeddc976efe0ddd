use Rattle.std.proofs.Common.{refl}
use Rattle.pw_summed_disk.specs.Sums.{sum_of}
use Rattle.pw_summed_disk.proofs.sum.sum_of.Goals as goal

pub loop-byte-init : goal.loop-byte-init
unfolding sum_of
loop-byte-init c = refl
