use Rattle.pw_status.proofs.Attempting.{first-attempts, next-attempts}
use Rattle.pw_status.proofs.laws.attempt_laws.Goals as goal

pub returns : goal.returns
returns c = record { start = first-attempts; next = next-attempts }
