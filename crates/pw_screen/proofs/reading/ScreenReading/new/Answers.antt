use Rattle.std.proofs.Common.{None, refl}
use Rattle.pw_screen.proofs.Steps.{outcome-start}
use Rattle.pw_screen.proofs.reading.ScreenReading.new.Goals as goal

pub returns-clause-outcome : goal.returns-clause-outcome
returns-clause-outcome c = λ text tokens laid.
    outcome-start text tokens laid (record { known = None; taken = c.new.result; build = c.new-2.result }) refl (c.new.ensures laid) c.new-2.ensures.done c.new-2.ensures.current
