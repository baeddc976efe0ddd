use Rattle.pw_forms.proofs.Steps.{outcome-faulty, outcome-good}
use Rattle.pw_forms.proofs.reading.ProcedureReading.finish.Goals as goal

pub returns-in-Some : goal.returns-in-Some
returns-in-Some c = rw c.into.ensures (outcome-faulty c.args.self c.in-Some.fault c.in-Some.is)

pub returns-in_ok-finish-in-None : goal.returns-in_ok-finish-in-None
returns-in_ok-finish-in-None c = outcome-good c.args.self c.in_ok-finish-in-None.field-0 c.in-None.is c.in_ok-finish-in-None.ensures
