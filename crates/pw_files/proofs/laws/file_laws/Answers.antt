use Rattle.pw_files.proofs.RecordLemmas.{IsFile-empty, IsFile-with_record, IsFile-without_key}
use Rattle.pw_files.proofs.laws.file_laws.Goals as goal

pub returns : goal.returns
returns c = record { empty = IsFile-empty; put = IsFile-with_record; gone = IsFile-without_key }
