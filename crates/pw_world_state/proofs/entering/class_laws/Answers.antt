use Rattle.pw_world_state.proofs.Working.{file-enters, reply-any-enters, take-enters}
use Rattle.pw_world_state.proofs.entering.class_laws.Goals as goal

pub returns-clause-take : goal.returns-clause-take
returns-clause-take c system script state kept class i t info stands here legal = take-enters system script state kept stands class i t info here legal

pub returns-clause-file : goal.returns-clause-file
returns-clause-file c system script state kept class i op mode f status stands serving legal = file-enters system script state kept stands class i serving op mode f status legal

pub returns-clause-reply : goal.returns-clause-reply
returns-clause-reply c system script state kept class i t fault stands serving asking legal = reply-any-enters system script state kept stands class i serving t asking fault
