use Rattle.pw_screen.proofs.Steps.{outcome-faulty, outcome-good}
use Rattle.pw_screen.proofs.reading.ScreenReading.finish.Goals as goal

pub returns-in-Some-clause-outcome : goal.returns-in-Some-clause-outcome
returns-in-Some-clause-outcome c = λ text laid. rw c.into.ensures (outcome-faulty text laid c.args.self c.in-Some.fault c.in-Some.is)

pub returns-in_ok-finish-in-None-clause-outcome : goal.returns-in_ok-finish-in-None-clause-outcome
returns-in_ok-finish-in-None-clause-outcome c = λ text laid.
    outcome-good text laid c.args.self c.in_ok-finish-in-None.field-0.items c.in-None.is c.in_ok-finish-in-None.ensures.built
