use Rattle.pw_event.proofs.Lines.{line_is, one_entry, line_answer}
use Rattle.pw_event.proofs.laws.line_laws.Goals as goal

pub returns-clause-grammar : goal.returns-clause-grammar
returns-clause-grammar c = λ system line event names is. line_is system names line event is

pub returns-clause-one : goal.returns-clause-one
returns-clause-one c = λ system line a b names is_a is_b. one_entry system names line a b is_a is_b

pub returns-clause-read : goal.returns-clause-read
returns-clause-read c = λ system line event result names is reads. line_answer system names line event result is reads
