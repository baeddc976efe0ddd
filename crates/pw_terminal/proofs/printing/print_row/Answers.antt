use Rattle.std.proofs.Common.{rules}
use Rattle.pw_terminal.proofs.Blank.{blank-line}
use Rattle.pw_terminal.proofs.printing.print_row.Goals as goal

pub returns-then-is_blank : goal.returns-then-is_blank
returns-then-is_blank c = blank-line c.args.text.now c.args.row.now c.args.number (search rules)
