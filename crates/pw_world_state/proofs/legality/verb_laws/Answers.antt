use Rattle.pw_world_state.proofs.Testing.{again-same, entries-same, fault-same, key-same, send-same, show-same, stop-same}
use Rattle.pw_world_state.proofs.legality.verb_laws.Goals as goal

pub returns-clause-show : goal.returns-clause-show
returns-clause-show c system script state kept t phase attempt k stands asking = show-same system script state kept stands t asking phase attempt k

pub returns-clause-key : goal.returns-clause-key
returns-clause-key c system script state kept t k stands asking = key-same system script state kept stands t asking k

pub returns-clause-send : goal.returns-clause-send
returns-clause-send c system script state kept t n class stands asking = send-same system script state kept stands t asking n class

pub returns-clause-again : goal.returns-clause-again
returns-clause-again c system script state kept t n stands asking = again-same system script state kept stands t asking n

pub returns-clause-stop : goal.returns-clause-stop
returns-clause-stop c system script state kept t stands asking = stop-same system script state kept stands t asking

pub returns-clause-entries : goal.returns-clause-entries
returns-clause-entries c system script state kept t stands asking = entries-same system script state kept stands t asking

pub returns-clause-fault : goal.returns-clause-fault
returns-clause-fault c system script state kept t x stands asking = fault-same system script state kept stands t asking x
