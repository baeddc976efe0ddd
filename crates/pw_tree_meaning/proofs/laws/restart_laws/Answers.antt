use Rattle.pw_tree_meaning.proofs.Requesters.{deck-never-redoes}
use Rattle.pw_tree_meaning.proofs.laws.restart_laws.Goals as goal

pub returns : goal.returns
returns c = record { never = λ rule deck t path free is e. deck-never-redoes rule deck free t path is e }
