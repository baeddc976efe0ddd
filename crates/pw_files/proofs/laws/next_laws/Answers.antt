use Rattle.pw_files.proofs.Nearest.{record_after-found, record_after-nearest, record_after-missing}
use Rattle.pw_files.proofs.laws.next_laws.Goals as goal

pub returns : goal.returns
returns c = record { found = record_after-found; nearest = record_after-nearest; missing = record_after-missing }
