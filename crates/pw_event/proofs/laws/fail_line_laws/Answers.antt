use Rattle.pw_event.proofs.Failures.{fail_is, one_fail, fail_answer}
use Rattle.pw_event.proofs.laws.fail_line_laws.Goals as goal

pub returns-clause-grammar : goal.returns-clause-grammar
returns-clause-grammar c = λ system line fail names is. fail_is system names line fail is

pub returns-clause-one : goal.returns-clause-one
returns-clause-one c = λ system line a b names is_a is_b. one_fail system names line a b is_a is_b

pub returns-clause-read : goal.returns-clause-read
returns-clause-read c = λ system line fail result names is reads. fail_answer system names line fail result is reads
