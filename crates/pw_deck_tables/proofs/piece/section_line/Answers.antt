use Rattle.std.proofs.Common.{sym, ap}
use Rattle.pw_deck_tables.specs.Pieces.{first_line_of}
use Rattle.pw_deck_tables.proofs.Lines.{no_first}
use Rattle.pw_deck_tables.proofs.piece.section_line.Goals as goal

pub returns-in-Some : goal.returns-in-Some
returns-in-Some c = sym (ap first_line_of c.in-Some.ensures.cases)

pub returns-in-None : goal.returns-in-None
returns-in-None c = sym (no_first c.args.section.now c.in-None.ensures.cases)
