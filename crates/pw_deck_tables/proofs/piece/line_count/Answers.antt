use Rattle.std.proofs.Common.{sym, arith}
use Rattle.pw_deck_tables.proofs.Lines.{counted-open, counted-shut, few_lines}
use Rattle.pw_deck_tables.proofs.piece.line_count.Goals as goal

pub returns-then-is_open-clause-value : goal.returns-then-is_open-clause-value
returns-then-is_open-clause-value c = sym (counted-open c.args.text.now c.line_ends-ends.result c.line_ends-ends.ensures.value c.if-is_open.ensures)

pub returns-then-is_open-clause-bound : goal.returns-then-is_open-clause-bound
returns-then-is_open-clause-bound c =
    omega (arith, counted-open c.args.text.now c.line_ends-ends.result c.line_ends-ends.ensures.value c.if-is_open.ensures, few_lines c.args.text.now)

pub returns-else-is_open-clause-value : goal.returns-else-is_open-clause-value
returns-else-is_open-clause-value c = sym (counted-shut c.args.text.now c.line_ends-ends.result c.line_ends-ends.ensures.value c.if-is_open.ensures)
