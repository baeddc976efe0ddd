use Rattle.pw_run_bounds.proofs.laws.fair_runs_finish.Goals as goal
use Rattle.pw_run_bounds.proofs.Fair.{fair-finishes}

pub returns : goal.returns
returns c = fair-finishes
