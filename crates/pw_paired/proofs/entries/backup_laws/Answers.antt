use Rattle.pw_paired.proofs.SingleEntries.{cause-other, copied-start, resumed-end, resumed-start}
use Rattle.pw_paired.proofs.entries.backup_laws.Goals as goal

pub returns : goal.returns
returns c = record { start = resumed-start; end = resumed-end; other_unit = cause-other; copied = copied-start }
