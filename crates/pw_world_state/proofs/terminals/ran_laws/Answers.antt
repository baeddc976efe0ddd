use Rattle.pw_world_state.proofs.Answered.{ran}
use Rattle.pw_world_state.proofs.Served.{ran-job}
use Rattle.pw_world_state.proofs.terminals.ran_laws.Goals as goal

pub returns-clause-terminal : goal.returns-clause-terminal
returns-clause-terminal c = ran

pub returns-clause-process : goal.returns-clause-process
returns-clause-process c = ran-job
