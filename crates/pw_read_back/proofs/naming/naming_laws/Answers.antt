use Rattle.pw_read_back.proofs.NamedLines.{log-named, named}
use Rattle.pw_read_back.proofs.Ordering.{order-named}
use Rattle.pw_read_back.proofs.naming.naming_laws.Goals as goal

pub returns-clause-entry : goal.returns-clause-entry
returns-clause-entry c system script log entry b lines run legal = named system script b lines log run entry legal

pub returns-clause-log : goal.returns-clause-log
returns-clause-log c system script log b lines run = log-named system script b lines log run

pub returns-clause-order : goal.returns-clause-order
returns-clause-order c system script log b lines run = order-named system script b lines log run
