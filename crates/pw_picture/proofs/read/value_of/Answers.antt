-- A value of fewer than 18 digits has room for one more.
use Rattle.std.proofs.Common.{arith}
use Rattle.pw_picture.proofs.Counts.{one_more_fits, power_bound}
use Rattle.pw_picture.proofs.read.value_of.Goals as goal

pub overflow_mul-value : goal.overflow_mul-value
overflow_mul-value c = omega (arith, one_more_fits c.loop-char.value c.loop-char.char-index c.loop-char.invariant.1 (omega arith))

pub overflow_add-value : goal.overflow_add-value
overflow_add-value c = omega (arith, one_more_fits c.loop-char.value c.loop-char.char-index c.loop-char.invariant.1 (omega arith))

pub returns-clause-bound : goal.returns-clause-bound
returns-clause-bound c = omega (arith, power_bound c.loop-char.char-index (omega arith))
