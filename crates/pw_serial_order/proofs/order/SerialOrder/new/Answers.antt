use Rattle.pw_serial_order.proofs.Reading.{begins}
use Rattle.pw_serial_order.proofs.order.SerialOrder.new.Goals as goal

pub returns : goal.returns
returns c = λ sys of. begins c.args.system.now sys _ of c.in_ok-seats_of.ensures c.in_ok-modes_of.ensures
