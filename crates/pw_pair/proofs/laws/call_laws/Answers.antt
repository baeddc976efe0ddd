-- The laws of the calls of a pair.
use Rattle.pw_pair.proofs.Beginning as beginning
use Rattle.pw_pair.proofs.Calling as calling
use Rattle.pw_pair.proofs.Following as following
use Rattle.pw_pair.proofs.laws.call_laws.Goals as goal

pub returns-clause-starts : goal.returns-clause-starts
returns-clause-starts c = beginning.starts

pub returns-clause-follows : goal.returns-clause-follows
returns-clause-follows c = λ image sys state p pair entry old legal. calling.follows image sys state p pair old entry legal.fits

pub returns-clause-may : goal.returns-clause-may
returns-clause-may c = λ image sys state p pair entry old legal own. beginning.may image sys state p pair old entry legal.fits own

pub returns-clause-builds : goal.returns-clause-builds
returns-clause-builds c = λ image sys state p t pair old. following.built-follows image sys p (state.modes p) state.terms state.memory state.flight pair t old

pub returns-clause-resumes : goal.returns-clause-resumes
returns-clause-resumes c = beginning.resumes
