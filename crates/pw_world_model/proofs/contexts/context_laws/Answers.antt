use Rattle.pw_world_model.proofs.OfUnits.{serves}
use Rattle.pw_world_model.proofs.Paths.{counts-path}
use Rattle.pw_world_model.proofs.Rooms.{behind, job-room, ready, says, start, work}
use Rattle.pw_world_model.proofs.Values.{closed-values}
use Rattle.pw_world_model.proofs.contexts.context_laws.Goals as goal

pub returns-clause-context : goal.returns-clause-context
returns-clause-context c world books t info context w here is = behind world books w t info context here is

pub returns-clause-ready : goal.returns-clause-ready
returns-clause-ready c world books t info context w here is = ready world books w t info context here is

pub returns-clause-start : goal.returns-clause-start
returns-clause-start c world books t info context w here is = start world books w t info context here is

pub returns-clause-job : goal.returns-clause-job
returns-clause-job c world books p i info context w here is = job-room world books w p i info context here is

pub returns-clause-work : goal.returns-clause-work
returns-clause-work c world books actor context w of is = work world books w actor context of is

pub returns-clause-says : goal.returns-clause-says
returns-clause-says c world books t context w can is = says world books w t context can is

pub returns-clause-serves : goal.returns-clause-serves
returns-clause-serves c world books p i job context w works is at_verb = serves world books w p i job context works is at_verb

pub returns-clause-closed : goal.returns-clause-closed
returns-clause-closed c system context a valid sound room values closes = closed-values system context a valid sound room values closes

pub returns-clause-counts : goal.returns-clause-counts
returns-clause-counts c world books t info context w here is = counts-path world books w t info context here is
