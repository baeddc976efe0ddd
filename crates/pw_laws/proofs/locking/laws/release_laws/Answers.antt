use Rattle.pw_laws.proofs.Releasing.{release-none, release-stays, release-unit}
use Rattle.pw_laws.proofs.locking.laws.release_laws.Goals as goal

pub returns : goal.returns
returns c = record { unit = release-unit; none = release-none; stay = release-stays }
