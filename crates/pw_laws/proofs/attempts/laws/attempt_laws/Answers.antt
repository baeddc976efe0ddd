use Rattle.pw_laws.proofs.alone.AloneRuns.{attempt-alone, path-alone}
use Rattle.pw_laws.proofs.attempts.laws.attempt_laws.Goals as goal

pub returns : goal.returns
returns c = record { is = attempt-alone; path = path-alone }
