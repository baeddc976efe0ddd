use Rattle.pw_world_model.proofs.Cancelled.{by-class, by-pair, of-idle, of-none, of-process, of-request}
use Rattle.pw_world_model.proofs.touching.touching_laws.Goals as goal

pub returns-clause-pair : goal.returns-clause-pair
returns-clause-pair c world books entry p own w can is of = by-pair world books w entry can p own is of

pub returns-clause-class : goal.returns-clause-class
returns-clause-class x world books entry c own w can is of = by-class world books w entry can c own is of

pub returns-clause-request : goal.returns-clause-request
returns-clause-request x world books t place c w few low at = of-request world books w t place c few low at

pub returns-clause-process : goal.returns-clause-process
returns-clause-process x world books t place c i w few low at = of-process world books w t place c i few low at

pub returns-clause-nowhere : goal.returns-clause-nowhere
returns-clause-nowhere x world books t c w low inside = of-none world books w t c low inside

pub returns-clause-idle : goal.returns-clause-idle
returns-clause-idle x world books t c i w low inside = of-idle world books w t c i low inside
