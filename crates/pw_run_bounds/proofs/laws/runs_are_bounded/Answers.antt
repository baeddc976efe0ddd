use Rattle.pw_run_bounds.proofs.laws.runs_are_bounded.Goals as goal
use Rattle.pw_run_bounds.proofs.Bounded.{bounded}

pub returns : goal.returns
returns c = bounded
