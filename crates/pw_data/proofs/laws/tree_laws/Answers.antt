use Rattle.pw_data.proofs.Forests.{forest-members}
use Rattle.pw_data.proofs.laws.tree_laws.Goals as goal

pub returns : goal.returns
returns c = record { members = forest-members }
