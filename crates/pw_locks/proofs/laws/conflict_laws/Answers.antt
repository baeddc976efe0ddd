use Rattle.pw_locks.proofs.Overlaps.{conflict-comm}
use Rattle.pw_locks.proofs.laws.conflict_laws.Goals as goal

pub returns-clause-symmetric : goal.returns-clause-symmetric
returns-clause-symmetric c = conflict-comm
