-- Up to the place the digits are equal, so the rest decides.
use Rattle.std.proofs.Common.{◌≡◌}
use Rattle.pw_machine.proofs.DigitOrders.{order_from}
use Rattle.pw_machine.proofs.digits.order_of_digits.Given as goal

abbrev pub invariant-loop-place : goal.invariant-loop-place
invariant-loop-place l = order_from l.one l.two l.place ≡ order_from l.one l.two 0
