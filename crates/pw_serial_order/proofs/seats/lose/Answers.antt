use Rattle.std.specs.Prelude.{if◌then◌else◌}
use Rattle.pw_serial_order.proofs.Tables.{each_step}
use Rattle.pw_serial_order.specs.Pairs.{is_of, seat_behind_loss}
use Rattle.pw_serial_order.specs.declared.seat.OrderSeat.{OrderSeat}
use Rattle.pw_serial_order.proofs.seats.lose.Goals as goal

pub loop-seat-preserved : goal.loop-seat-preserved
loop-seat-preserved c =
    each_step (λ (seat : OrderSeat). if is_of c.args.tcp seat then seat_behind_loss c.args.loss seat else seat) c.loop-seat.seat-items c.deref_mut-seat-items.result.now c.loop-seat.seat-index
    c.lose_one.new.seat _ c.loop-seat.invariant c.loop-seat-test.true c.lose_one.ensures
