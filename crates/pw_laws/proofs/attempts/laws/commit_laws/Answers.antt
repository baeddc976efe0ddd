use Rattle.pw_laws.proofs.alone.AloneRuns.{commits-alone, send-commits-alone}
use Rattle.pw_laws.proofs.attempts.laws.commit_laws.Goals as goal

pub returns : goal.returns
returns c = record { commit = commits-alone; send = send-commits-alone }
