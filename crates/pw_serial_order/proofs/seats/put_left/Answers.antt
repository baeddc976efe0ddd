use Rattle.std.proofs.Common.{arith}
use Rattle.pw_serial_order.specs.Pairs.{is_seat_of_pair}
use Rattle.pw_serial_order.proofs.Tables.{left_more}
use Rattle.pw_serial_order.proofs.seats.put_left.Goals as goal

pub loop-terminal-preserved : goal.loop-terminal-preserved
loop-terminal-preserved c = record {
  blocks = left_more (is_seat_of_pair c.args.tcp) c.args.seats.now c.loop-terminal.terminal c.seat_at.result _ c.loop-terminal.order.items _ c.seat_at.ensures c.loop-terminal.invariant.blocks
      c.put_one.ensures.block;
  room = omega arith;
}
