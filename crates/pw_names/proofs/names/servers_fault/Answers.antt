use Rattle.pw_names.specs.Order.{first}
use Rattle.pw_names.specs.Faults.{program_faults}
use Rattle.pw_names.specs.Names.{server_program, server_faults}
use Rattle.pw_names.proofs.Noted.{first-further}
use Rattle.pw_names.proofs.names.servers_fault.Goals as goal

pub loop-server-preserved : goal.loop-server-preserved
loop-server-preserved c =
    let outside = c.args.outside.now in
    first-further (λ one. program_faults (server_program outside.usings outside.links one)) c.args.servers.now c.loop-server.server-index c.server-item.result c.loop-server.found c.in_ok-found.found
    (first c.args.known (server_faults outside.usings outside.links c.args.servers.now)) c.loop-server-test.true c.server-item.is c.in_ok-found.ensures c.loop-server.invariant
