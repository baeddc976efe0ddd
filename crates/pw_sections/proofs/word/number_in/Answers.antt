use Rattle.std.proofs.Common.{sym, arith}
use Rattle.pw_sections.proofs.Numbers.{nine}
use Rattle.pw_sections.proofs.word.number_in.Goals as goal

pub overflow_cast-result : goal.overflow_cast-result
overflow_cast-result c = omega (arith, nine c.args.word.now (sym c.if-is_number.ensures), c.value_of.ensures)
