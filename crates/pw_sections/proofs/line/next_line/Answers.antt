-- The text has no LF, or is cut at its first one.
use Rattle.std.proofs.Common.{◌+◌, sym}
use Rattle.std.proofs.lemmas.List.{take_rest}
use Rattle.pw_sections.specs.Lines.{lines}
use Rattle.pw_sections.proofs.Cut.{last_line, first_line}
use Rattle.pw_sections.proofs.line.next_line.Goals as goal

pub returns-in-None-clause-cases : goal.returns-in-None-clause-cases
unfolding lines
returns-in-None-clause-cases c = last_line c.args.text.now c.if-is_empty.ensures (sym c.in-None.ensures.place)

pub returns-in-Some-clause-cases : goal.returns-in-Some-clause-cases
returns-in-Some-clause-cases c = rw (c.without_return.ensures, take_rest c.args.text.now (c.in-Some.end + 1)) (first_line c.args.text.now c.in-Some.end (sym c.in-Some.ensures.place))
