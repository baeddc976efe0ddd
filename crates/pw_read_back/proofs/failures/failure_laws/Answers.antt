use Rattle.pw_read_back.proofs.FailureLines.{lines-there}
use Rattle.pw_read_back.proofs.failures.failure_laws.Goals as goal

pub returns : goal.returns
returns c = lines-there
