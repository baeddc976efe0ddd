use Rattle.pw_program_laws.proofs.Totals.{total-with_record, total-without_key}
use Rattle.pw_program_laws.proofs.laws.sums_follow_changes.Goals as goal

pub returns : goal.returns
returns c = record { put = total-with_record; gone = total-without_key }
