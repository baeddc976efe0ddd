-- What the programs so far have, with what those that are left have, is all.
use Rattle.std.proofs.Common.{◌≡◌, drop}
use Rattle.pw_names.specs.Order.{first}
use Rattle.pw_names.specs.Names.{server_faults}
use Rattle.pw_names.proofs.names.servers_fault.Given as goal

abbrev pub invariant-loop-server : goal.invariant-loop-server
invariant-loop-server l =
    first l.found (server_faults l.outside.usings l.outside.links (drop l.server-index l.servers)) ≡ first l.fn.known (server_faults l.outside.usings l.outside.links l.servers)
