use Rattle.pw_world_state.proofs.There.{legal-there}
use Rattle.pw_world_state.proofs.steps.there_laws.Goals as goal

pub returns : goal.returns
returns c = legal-there
