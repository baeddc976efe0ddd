use Rattle.pw_laws.proofs.locking.laws.record_laws.Goals as goal
use Rattle.pw_laws.proofs.records.Committed.{are-files, commits-alone, records-ok}

pub returns : goal.returns
returns c = record { file = are-files; stay = commits-alone; covered = λ sys b log run. (records-ok sys b log run).locked }
