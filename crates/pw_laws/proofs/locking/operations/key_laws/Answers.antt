use Rattle.pw_laws.proofs.locking.operations.key_laws.Goals as goal
use Rattle.pw_laws.proofs.seeing.CoveredKeys.{exclusive_alone}

pub returns : goal.returns
returns c = λ a b apart file key free exclusive covers. exclusive_alone a b apart file key free exclusive covers
