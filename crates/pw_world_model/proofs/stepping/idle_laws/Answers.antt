use Rattle.pw_world_model.proofs.Idle.{idle}
use Rattle.pw_world_model.proofs.stepping.idle_laws.Goals as goal

pub returns : goal.returns
returns c world books w unfinished = idle world books w unfinished
