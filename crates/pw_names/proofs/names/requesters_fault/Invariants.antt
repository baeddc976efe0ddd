-- What the programs so far have, with what those that are left have, is all.
use Rattle.std.proofs.Common.{◌≡◌, drop}
use Rattle.pw_names.specs.Order.{first}
use Rattle.pw_names.specs.Names.{requester_faults}
use Rattle.pw_names.proofs.names.requesters_fault.Given as goal

abbrev pub invariant-loop-requester : goal.invariant-loop-requester
invariant-loop-requester l =
    first l.found (requester_faults l.outside.usings l.outside.links (drop l.requester-index l.requesters)) ≡ first l.fn.known (requester_faults l.outside.usings l.outside.links l.requesters)
