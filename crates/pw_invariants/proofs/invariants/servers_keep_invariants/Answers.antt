use Rattle.pw_invariants.proofs.Servers.{operations-keep, servers-keep}
use Rattle.pw_invariants.proofs.invariants.servers_keep_invariants.Goals as goal

pub returns-clause-units : goal.returns-clause-units
returns-clause-units g c = λ sys b servers. servers-keep sys b g.I.Invariant.holds servers

pub returns-clause-servers : goal.returns-clause-servers
returns-clause-servers g c = λ sys b operations. operations-keep sys b g.I.Invariant.holds operations
