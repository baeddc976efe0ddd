-- Those so far have modes.
use Rattle.std.proofs.Common.{◌≡◌, map, take}
use Rattle.pw_serial_order.specs.declared.pair.OrderMode.TheVariants as mode
use Rattle.pw_serial_order.proofs.seats.modes_of.Given as goal

abbrev pub invariant-loop-name : goal.invariant-loop-name
invariant-loop-name l = l.modes.items ≡ map (λ name. mode.Alone) (take l.name-index l.name-items)
