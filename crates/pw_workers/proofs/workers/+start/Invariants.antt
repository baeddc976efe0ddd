use Rattle.std.proofs.Common.{◌+◌, ◌*◌}
use Rattle.pw_workers.proofs.workers.+start.Given as goal

abbrev pub decreases-join+arg2 : goal.decreases-join+arg2
decreases-join+arg2 g l = 2 * l.half + 1

abbrev pub decreases-join+arg3 : goal.decreases-join+arg3
decreases-join+arg3 g l = 2 * l.rest + 1

abbrev pub decreases-start : goal.decreases-start
decreases-start g l = 2 * l.count
