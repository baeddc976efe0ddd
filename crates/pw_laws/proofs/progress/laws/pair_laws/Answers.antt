use Rattle.pw_laws.proofs.PairSteps.{message-steps, pair-steps, pending-steps}
use Rattle.pw_laws.proofs.progress.laws.pair_laws.Goals as goal

pub returns : goal.returns
returns c = record { pair = pair-steps; pending = pending-steps; message = message-steps }
