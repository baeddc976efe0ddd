-- The value may be cut at each digit.
use Rattle.std.proofs.Common.{◌+◌, ◌∙◌, arith}
use Rattle.pw_picture.specs.Symbols.{longest}
use Rattle.pw_picture.proofs.Counts.{count_step}
use Rattle.pw_picture.proofs.symbols.count_of.Goals as goal

pub loop-digit-preserved : goal.loop-digit-preserved
loop-digit-preserved c =
    (count_step c.loop-digit.value c.loop-digit.digit-index c.min-value.result (longest + 1) c.args.digits.now c.loop-digit-test.true (omega arith) ∙ c.loop-digit.invariant.0, omega arith)
