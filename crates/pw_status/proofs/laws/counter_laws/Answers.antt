use Rattle.pw_status.proofs.Counting.{next-counters}
use Rattle.pw_status.proofs.laws.counter_laws.Goals as goal

pub returns : goal.returns
returns c = next-counters
