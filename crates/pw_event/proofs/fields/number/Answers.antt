use Rattle.std.proofs.Common.{sym, ap, ◌∙◌, arith}
use Rattle.pw_event.proofs.Numbers.{number-decimal, number_large, number_none}
use Rattle.pw_event.specs.Parsing.{number}
use Rattle.pw_event.proofs.fields.number.Goals as goal

pub returns-then-number-limit-clause-value : goal.returns-then-number-limit-clause-value
returns-then-number-limit-clause-value c = sym (ap (number c.args.limit) c.in-Some.ensures.0 ∙ number-decimal c.args.limit c.in-Some.number c.if-number-limit.true (omega (arith, c.in-Some.ensures.1)))

pub returns-else-number-limit-clause-value : goal.returns-else-number-limit-clause-value
returns-else-number-limit-clause-value c = sym (ap (number c.args.limit) c.in-Some.ensures.0 ∙ number_large c.args.limit c.in-Some.number c.if-number-limit.false (omega (arith, c.in-Some.ensures.1)))

pub returns-in-None-clause-value : goal.returns-in-None-clause-value
returns-in-None-clause-value c = sym (number_none c.args.limit c.args.word.now (omega arith) c.in-None.ensures)
