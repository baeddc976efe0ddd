use Rattle.pw_world_state.proofs.PathLengths.{done-short, path-short, start-short}
use Rattle.pw_world_state.proofs.lengths.length_laws.Goals as goal

pub returns-clause-paths : goal.returns-clause-paths
returns-clause-paths c = path-short

pub returns-clause-starts : goal.returns-clause-starts
returns-clause-starts c = start-short

pub returns-clause-servers : goal.returns-clause-servers
returns-clause-servers c = done-short
