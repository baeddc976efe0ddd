-- Fewer lines are left.
use Rattle.std.proofs.Common.{length}
use Rattle.pw_disc.proofs.acting.+may_lose.Given as goal

abbrev pub decreases-may_lose : goal.decreases-may_lose
decreases-may_lose l = length l.lines.now
