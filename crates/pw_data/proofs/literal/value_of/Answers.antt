use Rattle.std.proofs.Common.{◌+◌, ◌*◌, min, ap, ◌∙◌, arith}
use Rattle.pw_picture.proofs.Counts.{count_step}
use Rattle.pw_data.proofs.literal.value_of.Goals as goal

pub loop-digit-preserved : goal.loop-digit-preserved
loop-digit-preserved c = record {
  so_far = count_step c.loop-digit.value c.loop-digit.digit-index c.min-value.result 1001 c.args.digits.now c.loop-digit-test.true
      (c.min-value.ensures ∙ ap (λ digit. min (10 * c.loop-digit.value + digit) 1001) c.saturating_sub.ensures) ∙ c.loop-digit.invariant.so_far;
  bound = omega arith;
}
