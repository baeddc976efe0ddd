use Rattle.pw_laws.proofs.serial.laws.enough_restarts_never_suspend.Goals as goal
use Rattle.pw_laws.proofs.restarts.Enough.{enough}

pub returns : goal.returns
returns c = enough
