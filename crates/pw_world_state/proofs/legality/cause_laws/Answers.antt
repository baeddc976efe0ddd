use Rattle.pw_world_state.proofs.Causing.{restart-same, suspend-same}
use Rattle.pw_world_state.proofs.legality.cause_laws.Goals as goal

pub returns-clause-restart : goal.returns-clause-restart
returns-clause-restart c system script state kept t n cause stands placed tested = restart-same system script state kept stands t placed cause tested n

pub returns-clause-suspend : goal.returns-clause-suspend
returns-clause-suspend c system script state kept t cause stands placed tested = suspend-same system script state kept stands t placed cause tested
