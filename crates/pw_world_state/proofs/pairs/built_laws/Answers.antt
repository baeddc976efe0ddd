use Rattle.pw_world_state.proofs.Built.{built-stands}
use Rattle.pw_world_state.proofs.pairs.built_laws.Goals as goal

pub returns : goal.returns
returns c = record { built = built-stands }
