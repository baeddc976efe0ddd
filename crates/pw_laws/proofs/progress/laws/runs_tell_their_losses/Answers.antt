use Rattle.pw_laws.proofs.Failures.{runs-losses, runs-suspensions}
use Rattle.pw_laws.proofs.progress.laws.runs_tell_their_losses.Goals as goal

pub returns : goal.returns
returns c = record { losses = runs-losses; suspensions = runs-suspensions }
