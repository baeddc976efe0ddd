-- Two digits more are written, and two fewer are left.
use Rattle.std.proofs.Common.{◌+◌, ◌*◌, ◌%◌, get_or, length, arith}
use Rattle.pw_picture.specs.declared.store.TheConstants.{PAIRS}
use Rattle.pw_picture.proofs.Digits.{pair_written, pair_left}
use Rattle.pw_picture.proofs.Tables.{pair_at}
use Rattle.pw_picture.proofs.store.write_digits.Goals as goal

pub loop-at-preserved : goal.loop-at-preserved
loop-at-preserved c =
    let pair = pair_at (c.loop-at.rest % 100) (omega arith) in (
      pair_written c.loop-at.into c.loop-at.at c.loop-at.rest c.args.size (length c.args.into.now) (get_or PAIRS (c.loop-at.rest % 100 * 2) 0) (get_or PAIRS (c.loop-at.rest % 100 * 2 + 1) 0) c.loop-at-test.true c.loop-at.invariant.2 (omega arith) pair.0 pair.1 c.loop-at.invariant.0 c.loop-at.invariant.1,
      pair_left c.loop-at.at c.loop-at.rest c.args.size (length c.args.into.now) c.loop-at-test.true c.loop-at.invariant.2 c.loop-at.invariant.1,
      omega arith,
    )
