use Rattle.pw_world_state.proofs.OfRuns.{begins-same, can-leave, knows-all, whole-down, works-for}
use Rattle.pw_world_state.proofs.runs.run_laws.Goals as goal

pub returns-clause-knows : goal.returns-clause-knows
returns-clause-knows c = knows-all

pub returns-clause-leaves : goal.returns-clause-leaves
returns-clause-leaves c = can-leave

pub returns-clause-whole : goal.returns-clause-whole
returns-clause-whole c = whole-down

pub returns-clause-begins : goal.returns-clause-begins
returns-clause-begins c = begins-same

pub returns-clause-serves : goal.returns-clause-serves
returns-clause-serves c = works-for
