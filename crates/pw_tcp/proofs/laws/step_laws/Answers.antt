-- The laws of the next step.
use Rattle.pw_tcp.proofs.Fitting.{next-fits}
use Rattle.pw_tcp.proofs.Waiting.{waits}
use Rattle.pw_tcp.proofs.laws.step_laws.Goals as goal

pub returns-clause-fits : goal.returns-clause-fits
returns-clause-fits c = next-fits

pub returns-clause-waits : goal.returns-clause-waits
returns-clause-waits c = waits
