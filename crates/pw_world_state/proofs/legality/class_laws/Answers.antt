use Rattle.pw_world_state.proofs.Serving.{file-same, reply-same, take-same}
use Rattle.pw_world_state.proofs.legality.class_laws.Goals as goal

pub returns-clause-take : goal.returns-clause-take
returns-clause-take c system script state kept class i t info stands here = take-same system script state kept stands class i t info here

pub returns-clause-file : goal.returns-clause-file
returns-clause-file c system script state kept class i op mode f status stands serving = file-same system script state kept stands class i serving op mode f status

pub returns-clause-reply : goal.returns-clause-reply
returns-clause-reply c system script state kept class i t fault stands serving = reply-same system script state kept stands class i serving t fault
