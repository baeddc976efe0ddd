use Rattle.pw_world_state.proofs.Applied.{applied-stands}
use Rattle.pw_world_state.proofs.Raised.{raise-stands}
use Rattle.pw_world_state.proofs.pairs.raise_laws.Goals as goal

pub returns-clause-raise : goal.returns-clause-raise
returns-clause-raise c system script state kept p stands legal = raise-stands system script state kept p stands legal.alone

pub returns-clause-applied : goal.returns-clause-applied
returns-clause-applied c system script state kept t terminal stands here legal = applied-stands system script state kept t terminal stands here
