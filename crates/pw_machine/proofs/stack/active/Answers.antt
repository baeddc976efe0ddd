-- One program more.
use Rattle.std.proofs.Common.{arith}
use Rattle.pw_machine.proofs.StackLemmas.{total_more}
use Rattle.pw_machine.proofs.stack.active.Goals as goal

pub loop-frame-preserved : goal.loop-frame-preserved
loop-frame-preserved c = record {
  total =
      let more = total_more c.args.system.now c.args.context.now.frames c.as_slice-frame-items.result.now c.loop-frame.frame-index c.frame-item.result c.loop-frame.total
      c.as_slice-frame-items.ensures c.loop-frame-test.true c.frame-item.is c.loop-frame.invariant.total in
      cc (more);
  bound = omega arith;
}
