use Rattle.pw_laws.proofs.Holding.{apart, held}
use Rattle.pw_laws.proofs.locking.laws.lock_laws.Goals as goal

pub returns : goal.returns
returns c = record { held = held; apart = apart }
