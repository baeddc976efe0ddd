use Rattle.pw_tree_meaning.proofs.Budget.{enough-requester, enough-server}
use Rattle.pw_tree_meaning.proofs.laws.until_laws.Goals as goal

pub returns : goal.returns
returns c = record { requesters = enough-requester; servers = enough-server }
