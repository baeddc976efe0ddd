use Rattle.pw_names.proofs.Accepted.{first-none}
use Rattle.pw_names.proofs.Firsts.{first-some}
use Rattle.pw_names.proofs.Right.{right}
use Rattle.pw_names.proofs.laws.names_laws.Goals as goal

pub returns-clause-none : goal.returns-clause-none
returns-clause-none c = first-none

pub returns-clause-some : goal.returns-clause-some
returns-clause-some c = first-some

pub returns-clause-right : goal.returns-clause-right
returns-clause-right c = right
