use Rattle.pw_world_model.proofs.KeptContext.{context-stays}
use Rattle.pw_world_model.proofs.Never.{never-unrun}
use Rattle.pw_world_model.proofs.unrun.unrun_laws.Goals as goal

pub returns-clause-stays : goal.returns-clause-stays
returns-clause-stays c world books kept entry actor w of legal same = context-stays world books w entry legal kept actor of same

pub returns-clause-never : goal.returns-clause-never
returns-clause-never c = never-unrun
