use Rattle.std.proofs.Common.{◌∙◌}
use Rattle.pw_compile.proofs.Digits.{further}
use Rattle.pw_compile.proofs.numbers.digits_in.Goals as goal

pub loop-byte-preserved : goal.loop-byte-preserved
loop-byte-preserved c = record {
  so_far = further c.loop-byte.value c.loop-byte.byte-index c.further-value.result c.args.most c.args.spelling.now c.loop-byte-test.true c.further-value.ensures.value
      ∙ c.loop-byte.invariant.so_far;
  bound = c.further-value.ensures.bound;
}
