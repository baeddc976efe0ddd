-- What the fields write is seen, and nothing else.
use Rattle.pw_terminal.proofs.Cells.{others, last}
use Rattle.pw_terminal.proofs.laws.show_laws.Goals as goal

pub returns-clause-others : goal.returns-clause-others
returns-clause-others c = others

pub returns-clause-last : goal.returns-clause-last
returns-clause-last c = last
