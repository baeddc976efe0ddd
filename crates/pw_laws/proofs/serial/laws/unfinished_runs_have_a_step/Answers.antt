use Rattle.pw_laws.proofs.serial.laws.unfinished_runs_have_a_step.Goals as goal
use Rattle.pw_laws.proofs.steps.Unstuck.{some-actor-steps}

pub returns : goal.returns
returns c = some-actor-steps
