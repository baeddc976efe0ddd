use Rattle.pw_laws.proofs.guarded.Changing.{entry-changes}
use Rattle.pw_laws.proofs.guarded.Ending.{commit-ended, send-ended}
use Rattle.pw_laws.proofs.guarded.Staying.{guarded-kept, guarded-terminals, records-stay}
use Rattle.pw_laws.proofs.serial.laws.guarded_pairs_are_kept.Goals as goal

pub returns : goal.returns
returns c = record {
  pairs = guarded-kept;
  terminals = guarded-terminals;
  commit = commit-ended;
  send = send-ended;
  records = records-stay;
  changes = entry-changes;
}
