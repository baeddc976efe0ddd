use Rattle.pw_laws.proofs.serial.laws.older_restarts_are_few.Goals as goal
use Rattle.pw_laws.proofs.restarts.Few.{older-few}

pub returns : goal.returns
returns c = older-few
