use Rattle.pw_locks.proofs.Overlaps.{overlap-meet, meet-overlap}
use Rattle.pw_locks.proofs.laws.span_laws.Goals as goal

pub returns-clause-common : goal.returns-clause-common
returns-clause-common c = λ a b. (overlap-meet a b, meet-overlap a b)
