use Rattle.pw_laws.proofs.decided.Legality.{jobs-there, legal, run}
use Rattle.pw_laws.proofs.legal.laws.run_laws.Goals as goal

pub returns : goal.returns
returns c = record { jobs = jobs-there; entries = legal; logs = run }
