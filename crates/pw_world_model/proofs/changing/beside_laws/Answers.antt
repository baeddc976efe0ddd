use Rattle.std.proofs.Common.{refl}
use Rattle.pw_world_model.proofs.SameWork.{built-so, has-failed, marked-so, may-same, out-so}
use Rattle.pw_world_model.proofs.changing.beside_laws.Goals as goal

pub returns-clause-failed : goal.returns-clause-failed
returns-clause-failed c world books n w rose = has-failed world books w n rose

pub returns-clause-out : goal.returns-clause-out
returns-clause-out c world books out w = out-so world books w out

pub returns-clause-marked : goal.returns-clause-marked
returns-clause-marked c world books marked w are = marked-so world books w marked are

pub returns-clause-builds : goal.returns-clause-builds
returns-clause-builds c world books p t marked w are = built-so world books w p t marked are

pub returns-clause-steps : goal.returns-clause-steps
returns-clause-steps c world out actor entry e = record { legal = e.legal; at_verb = e.at_verb; own = e.own }

pub returns-clause-work : goal.returns-clause-work
returns-clause-work c world out actor may = may-same world world.kept world.failed out refl refl actor may
