-- All characters are digits behind it too, as many as before.
use Rattle.pw_machine.proofs.DigitLemmas.{counted_few, counted_up}
use Rattle.pw_machine.proofs.counting.count_up.Goals as goal

pub returns-then-are_digits-clause-sum : goal.returns-then-are_digits-clause-sum
returns-then-are_digits-clause-sum c =
    counted_up c.raised.result c.args.digits.now c.raised.new.digits c.args.more c.raised.ensures.digits c.raised.auto.digits c.raised.ensures.sum c.raised.ensures.same

pub returns-then-are_digits-clause-fits : goal.returns-then-are_digits-clause-fits
returns-then-are_digits-clause-fits c = λ done. counted_few c.args.digits.now c.raised.new.digits c.args.more c.raised.auto.digits (c.raised.ensures.sum done)
