use Rattle.pw_world_state.proofs.Testing.{apply-same, copy-same, lose-same, raise-same, takeover-same}
use Rattle.pw_world_state.proofs.legality.pair_laws.Goals as goal

pub returns-clause-copy : goal.returns-clause-copy
returns-clause-copy c system script state kept t stands placed = copy-same system script state kept stands t placed

pub returns-clause-apply : goal.returns-clause-apply
returns-clause-apply c system script state kept t stands placed = apply-same system script state kept stands t placed

pub returns-clause-raise : goal.returns-clause-raise
returns-clause-raise c system script state kept p stands few = raise-same system script state kept stands p few

pub returns-clause-takeover : goal.returns-clause-takeover
returns-clause-takeover c system script state kept p stands few = takeover-same system script state kept stands p few

pub returns-clause-lost : goal.returns-clause-lost
returns-clause-lost c system script state kept t stands placed = lose-same system script state kept stands t placed
