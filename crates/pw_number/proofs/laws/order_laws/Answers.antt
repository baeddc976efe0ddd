-- The order of values is that of the units at places that all have.
use Rattle.pw_number.proofs.Scales.{order-raised, order_total, order-equal}
use Rattle.pw_number.proofs.laws.order_laws.Goals as goal

pub returns-clause-units : goal.returns-clause-units
returns-clause-units c = order-raised

pub returns-clause-total : goal.returns-clause-total
returns-clause-total c = order_total

pub returns-clause-equal : goal.returns-clause-equal
returns-clause-equal c = order-equal
