use Rattle.pw_class.proofs.Takes.{taken-Empty, taken-NoneFree, taken-Got}
use Rattle.pw_class.proofs.laws.take_laws.Goals as goal

pub returns-clause-empty : goal.returns-clause-empty
returns-clause-empty c = taken-Empty

pub returns-clause-none_free : goal.returns-clause-none_free
returns-clause-none_free c = taken-NoneFree

pub returns-clause-got : goal.returns-clause-got
returns-clause-got c = taken-Got
