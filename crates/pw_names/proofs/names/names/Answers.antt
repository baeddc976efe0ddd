use Rattle.pw_names.proofs.Accepted.{requesters-resolve, servers-resolve}
use Rattle.pw_names.proofs.names.names.Goals as goal

pub returns-in-None-clause-requesters : goal.returns-in-None-clause-requesters
returns-in-None-clause-requesters c = requesters-resolve c.args.requesters.now c.args.servers.now c.args.links.now c.in_ok-fault.field-0 c.in_ok-fault.ensures c.in-None.is

pub returns-in-None-clause-servers : goal.returns-in-None-clause-servers
returns-in-None-clause-servers c = servers-resolve c.args.requesters.now c.args.servers.now c.args.links.now c.in_ok-fault.field-0 c.in_ok-fault.ensures c.in-None.is
