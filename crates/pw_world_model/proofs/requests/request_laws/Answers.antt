use Rattle.pw_world_model.proofs.Queues.{none-in-line, one-class, one-process, others-stay}
use Rattle.pw_world_model.proofs.requests.request_laws.Goals as goal

pub returns-clause-class : goal.returns-clause-class
returns-clause-class c world books t one other w low few first second = one-class world books w t one other low few first second

pub returns-clause-process : goal.returns-clause-process
returns-clause-process c world books t one i other j w low few first second = one-process world books w t one i other j low few first second

pub returns-clause-line : goal.returns-clause-line
returns-clause-line c world books t one i other w low few works = none-in-line world books w t one i other low few works

pub returns-clause-turns : goal.returns-clause-turns
returns-clause-turns c world books entry p w can few other = others-stay world books w entry can p few other
