use Rattle.std.proofs.Common.{sym, ap, ◌∙◌}
use Rattle.pw_deck_tables.specs.Pieces.{is_open}
use Rattle.pw_deck_tables.proofs.Lines.{open_last, none_open}
use Rattle.pw_deck_tables.proofs.piece.is_open.Goals as goal

pub returns-in-Some : goal.returns-in-Some
returns-in-Some c = sym (ap is_open c.in-Some.ensures.cases.0 ∙ open_last c.in-Some.field-0-1.now c.in-Some.byte.now)

pub returns-in-None : goal.returns-in-None
returns-in-None c = none_open c.args.text.now c.in-None.ensures.cases
