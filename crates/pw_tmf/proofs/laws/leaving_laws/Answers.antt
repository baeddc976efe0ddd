use Rattle.pw_tmf.proofs.LeftUnits.{may-leave, tells-leave, tells-one, tells-own}
use Rattle.pw_tmf.proofs.laws.leaving_laws.Goals as goal

pub returns-clause-own : goal.returns-clause-own
returns-clause-own c = tells-own

pub returns-clause-one : goal.returns-clause-one
returns-clause-one c = tells-one

pub returns-clause-several : goal.returns-clause-several
returns-clause-several c = tells-leave

pub returns-clause-may : goal.returns-clause-may
returns-clause-may c = may-leave
