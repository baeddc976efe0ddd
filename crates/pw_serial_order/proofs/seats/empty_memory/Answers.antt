use Rattle.std.specs.Prelude.{if◌then◌else◌}
use Rattle.pw_serial_order.proofs.Tables.{each_step}
use Rattle.pw_serial_order.specs.Pairs.{is_of}
use Rattle.pw_serial_order.specs.Seats.{without_memory}
use Rattle.pw_serial_order.specs.declared.seat.OrderSeat.{OrderSeat}
use Rattle.pw_serial_order.proofs.seats.empty_memory.Goals as goal

pub loop-seat-preserved : goal.loop-seat-preserved
loop-seat-preserved c =
    each_step (λ (seat : OrderSeat). if is_of c.args.tcp seat then without_memory seat else seat) c.loop-seat.seat-items c.deref_mut-seat-items.result.now c.loop-seat.seat-index
    c.empty_one.new.seat _ c.loop-seat.invariant c.loop-seat-test.true c.empty_one.ensures
