use Rattle.pw_world_model.proofs.Behind.{needs, same-entered, world-then}
use Rattle.pw_world_model.proofs.Touched.{stamps}
use Rattle.pw_world_model.proofs.pushing.push_laws.Goals as goal

pub returns-clause-needs : goal.returns-clause-needs
returns-clause-needs c world books entry w can = needs world books w entry can

pub returns-clause-members : goal.returns-clause-members
returns-clause-members c world books entry w can = same-entered world books w entry can

pub returns-clause-world : goal.returns-clause-world
returns-clause-world c world books entry marked w can are = world-then world books w entry can marked are (stamps world books w entry can)
