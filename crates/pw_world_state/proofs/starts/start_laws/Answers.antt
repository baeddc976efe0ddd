use Rattle.pw_world_state.proofs.Starting.{start-stands}
use Rattle.pw_world_state.proofs.starts.start_laws.Goals as goal

pub returns : goal.returns
returns c = record { start = start-stands }
