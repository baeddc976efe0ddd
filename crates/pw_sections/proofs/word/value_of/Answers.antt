use Rattle.std.proofs.Common.{get_or, refl, arith}
use Rattle.pw_sections.proofs.Numbers.{turn}
use Rattle.pw_sections.proofs.word.value_of.Goals as goal

pub overflow_mul-value : goal.overflow_mul-value
overflow_mul-value c =
    let t = turn c.args.word.now c.loop-byte.byte-index (get_or c.args.word.now c.loop-byte.byte-index 0) c.loop-byte.value c.requires.digits c.requires.few c.loop-byte-test.true refl c.loop-byte.invariant in
    omega (arith, t.small)

pub overflow_add-value : goal.overflow_add-value
overflow_add-value c =
    let t = turn c.args.word.now c.loop-byte.byte-index (get_or c.args.word.now c.loop-byte.byte-index 0) c.loop-byte.value c.requires.digits c.requires.few c.loop-byte-test.true refl c.loop-byte.invariant in
    omega (arith, t.small, c.from.ensures)

pub loop-byte-preserved : goal.loop-byte-preserved
loop-byte-preserved c =
    let t = turn c.args.word.now c.loop-byte.byte-index (get_or c.args.word.now c.loop-byte.byte-index 0) c.loop-byte.value c.requires.digits c.requires.few c.loop-byte-test.true refl c.loop-byte.invariant in
    rw c.from.ensures t.is
