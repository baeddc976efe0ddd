use Rattle.pw_world_store.proofs.Failing.{one-distinct}
use Rattle.pw_world_store.proofs.keep.Keep.leave_at.Goals as goal

pub leave-requires-clause-distinct : goal.leave-requires-clause-distinct
leave-requires-clause-distinct g c κs within = one-distinct c.args.terminal
