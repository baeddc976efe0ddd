use Rattle.pw_files.proofs.Lookups.{record_at-found, record_at-missing, record_at-with_record, record_at-with_other, record_at-without_key, record_at-without_other}
use Rattle.pw_files.proofs.laws.lookup_laws.Goals as goal

pub returns : goal.returns
returns c = record {
  found = record_at-found;
  missing = record_at-missing;
  put = record_at-with_record;
  put_beside = record_at-with_other;
  gone = record_at-without_key;
  gone_beside = record_at-without_other;
}
