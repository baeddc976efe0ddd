-- Fewer digits, and a carry before their sum.
use Rattle.std.proofs.Common.{◌+◌, ◌*◌, length}
use Rattle.pw_machine.proofs.counting.+raised.Given as goal

abbrev pub decreases-raised : goal.decreases-raised
decreases-raised l = 2 * length l.digits.now

abbrev pub decreases-carried : goal.decreases-carried
decreases-carried l = 2 * length l.digits.now + 1
