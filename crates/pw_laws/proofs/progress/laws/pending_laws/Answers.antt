use Rattle.pw_laws.proofs.Pending.{pending-runs}
use Rattle.pw_laws.proofs.progress.laws.pending_laws.Goals as goal

pub returns : goal.returns
returns c = pending-runs
