use Rattle.std.proofs.Common.{sym}
use Rattle.pw_terminal.proofs.Blank.{blank-lines}
use Rattle.pw_terminal.proofs.printing.print_upper.Goals as goal

pub returns-then-is_blank : goal.returns-then-is_blank
returns-then-is_blank c = sym (blank-lines c.args.text.now c.args.upper.now 23 1 (c.is_blank.ensures.0 c.if-is_blank.true))
