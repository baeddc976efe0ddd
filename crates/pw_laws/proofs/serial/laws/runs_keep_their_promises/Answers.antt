use Rattle.pw_laws.proofs.Promises.{keeps-promises}
use Rattle.pw_laws.proofs.serial.laws.runs_keep_their_promises.Goals as goal

pub returns : goal.returns
returns c = keeps-promises
