use Rattle.pw_serial_order.proofs.Reading.{order-grows, order-whole}
use Rattle.pw_serial_order.proofs.laws.orders_are_whole.Goals as goal

pub returns-clause-grows : goal.returns-clause-grows
returns-clause-grows c = order-grows

pub returns-clause-whole : goal.returns-clause-whole
returns-clause-whole c = order-whole
