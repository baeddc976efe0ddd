use Rattle.pw_laws.proofs.BeginsOnce.{begins-once, few-restarts, restarts-counted, suspended-after}
use Rattle.pw_laws.proofs.progress.laws.begin_laws.Goals as goal

pub returns : goal.returns
returns c = record { once = begins-once; few = few-restarts; counted = restarts-counted; suspended = suspended-after }
