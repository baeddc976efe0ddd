use Rattle.std.proofs.Common.{sym, filter, arith}
use Rattle.std.specs.Char.{is_ascii_digit}
use Rattle.pw_machine.proofs.KeyedLemmas.{digit_there, no_digit}
use Rattle.pw_machine.proofs.keyed.digit_at.Goals as goal

pub overflow_sub-result : goal.overflow_sub-result
overflow_sub-result c =
    let is = digit_there c.args.value.now c.digits_in-count.result c.args.weight c.digit_of_spelling.result c.digits_in-count.ensures c.if-weight-count.true c.digit_of_spelling.ensures in
    omega (arith, is)

pub returns-then-weight-count : goal.returns-then-weight-count
returns-then-weight-count c =
    let is = digit_there c.args.value.now c.digits_in-count.result c.args.weight c.digit_of_spelling.result c.digits_in-count.ensures c.if-weight-count.true c.digit_of_spelling.ensures in
    omega (arith, is)

pub returns-else-weight-count : goal.returns-else-weight-count
returns-else-weight-count c = sym (no_digit (filter is_ascii_digit c.args.value.now) c.args.weight (omega (arith, c.digits_in-count.ensures, c.if-weight-count.false)))
