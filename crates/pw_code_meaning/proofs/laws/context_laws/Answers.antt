use Rattle.pw_code_meaning.proofs.Standing.{runs_on, takes, one_context, starts}
use Rattle.pw_code_meaning.proofs.laws.context_laws.Goals as goal

pub returns-clause-runs : goal.returns-clause-runs
returns-clause-runs c = runs_on

pub returns-clause-answers : goal.returns-clause-answers
returns-clause-answers c = takes

pub returns-clause-one : goal.returns-clause-one
returns-clause-one c = one_context

pub returns-clause-starts : goal.returns-clause-starts
returns-clause-starts c = starts
