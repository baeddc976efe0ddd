use Rattle.pw_status.proofs.Tallying.{first-tally, next-tally}
use Rattle.pw_status.proofs.laws.tally_laws.Goals as goal

pub returns : goal.returns
returns c = record { first = first-tally; next = next-tally }
