use Rattle.std.proofs.Common.{List, None, ◌++◌, ap, ◌∙◌}
use Rattle.pw_base.proofs.Plain.{on-ok}
use Rattle.pw_serial_order.specs.Entries.{Shadow, all_left}
use Rattle.pw_serial_order.specs.Pairs.{is_seat_of_pair}
use Rattle.pw_serial_order.specs.declared.seat.OrderSeat.{OrderSeat}
use Rattle.pw_serial_order.proofs.Reading.{closes}
use Rattle.pw_serial_order.proofs.order.SerialOrder.end.Goals as goal

pub returns-clause-ends : goal.returns-clause-ends
returns-clause-ends c = λ sys log stands. on-ok c.put_left.result c.put_left.ensures.ok (λ is. closes sys log c.args.self.now _ _ stands (is ∙ ap (λ (seats : List OrderSeat). c.args.order.now.items ++ all_left (is_seat_of_pair None) seats) (c.as_slice.ensures.value ∙ ap (λ (shadow : Shadow). shadow.seats) c.self.view_is)))
