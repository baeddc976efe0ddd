use Rattle.pw_laws.proofs.Losing.{lost-by-failure, made-gone}
use Rattle.pw_laws.proofs.progress.laws.lost_laws.Goals as goal

pub returns : goal.returns
returns c = record { gone = made-gone; lost = lost-by-failure }
